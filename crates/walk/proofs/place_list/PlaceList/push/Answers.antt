use Rattle.std.proofs.Common.{arith, length-take}
use Rattle.std.proofs.lemmas.List.{take_more_set}
use Rattle.walk.proofs.place_list.PlaceList.push.Goals as goal

pub returns : goal.returns
returns c =
    let s = c.args.self.now in
    take_more_set s.cells s.len c.args.x (omega (arith, length-take s.len s.cells))
