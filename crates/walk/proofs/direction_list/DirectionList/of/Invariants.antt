use Rattle.std.proofs.Common.{◌≡◌, take}
use Rattle.ordered.specs.Items.{items_of}
use Rattle.walk.proofs.direction_list.DirectionList.of.Given as goal

abbrev pub invariant-loop-k : goal.invariant-loop-k
invariant-loop-k g l = items_of l.cells ≡ take l.k (g.L.Lattice.directions l.lattice)
