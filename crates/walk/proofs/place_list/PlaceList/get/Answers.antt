use Rattle.std.proofs.Common.{sym, arith, length-take}
use Rattle.lattice.specs.Cells.{origin}
use Rattle.std.proofs.lemmas.List.{get_or-take}
use Rattle.walk.proofs.place_list.PlaceList.get.Goals as goal

pub returns : goal.returns
returns c =
    let s = c.args.self.now in
    sym (get_or-take s.len s.cells c.args.place origin (omega (arith, length-take s.len s.cells)))
