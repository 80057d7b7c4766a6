use Rattle.std.proofs.Common.{◌≡◌, map, take}
use Rattle.ordered.specs.Items.{items_of}
use Rattle.lattice.specs.Cells.{minus}
use Rattle.shapes.specs.Members.{placement_cells}
use Rattle.shapes.proofs.images.from_the_first.Given as goal

abbrev pub invariant-loop-x : goal.invariant-loop-x
invariant-loop-x l = items_of l.cells ≡ map (λ y. minus y l.first) (take l.x-index (placement_cells l.placement))
