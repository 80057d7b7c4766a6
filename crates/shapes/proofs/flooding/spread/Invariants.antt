use Rattle.std.proofs.Common.{◌≡◌, take}
use Rattle.ordered.specs.Items.{items_of}
use Rattle.shapes.specs.Floods.{spread, same_cell}
use Rattle.shapes.specs.Members.{placement_cells}
use Rattle.shapes.specs.Positions.{neighbours}
use Rattle.shapes.specs.Shapes.{shape_cells}
use Rattle.shapes.proofs.flooding.spread.Given as goal

abbrev pub invariant-loop-y : goal.invariant-loop-y
invariant-loop-y g l =
    items_of l.cells ≡ spread same_cell (neighbours (g.L.Lattice.directions l.lattice)) (take l.y-index (shape_cells l.shape)) (placement_cells l.reached)
