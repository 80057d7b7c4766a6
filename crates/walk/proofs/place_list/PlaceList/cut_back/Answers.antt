use Rattle.std.proofs.Common.{◌≤◌, sym, arith, length-take}
use Rattle.std.proofs.lemmas.List.{take-take}
use Rattle.walk.proofs.place_list.PlaceList.cut_back.Goals as goal

pub returns : goal.returns
returns c =
    let s = c.args.self.now in
    let h : c.args.len ≤ s.len = omega (arith, length-take s.len s.cells) in
    sym (take-take c.args.len s.len s.cells h)
