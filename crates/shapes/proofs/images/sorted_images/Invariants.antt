use Rattle.std.proofs.Common.{◌≡◌, ◌≤◌, map, length, take}
use Rattle.ordered.specs.Lookups.{sorted}
use Rattle.lattice.specs.declared.cell.Cell.{Cell}
use Rattle.lattice.specs.Cells.{cell_less}
use Rattle.shapes.specs.Members.{placement_cells}
use Rattle.shapes.proofs.images.sorted_images.Given as goal

abbrev pub invariant-loop-x : goal.invariant-loop-x
invariant-loop-x g l =
    (length (placement_cells l.placement) ≤ l.x-index)
    × ((f : Cell → Cell) → ((x y : Cell) → goal.F-post g l.image x y → y ≡ f x) → placement_cells l.placement ≡ sorted cell_less (take l.x-index (map f l.cells)))
