use Rattle.std.proofs.Common.{◌≡◌}
use Rattle.lattice.specs.Cells.{origin}
use Rattle.shapes.specs.Floods.{flooded, same_cell}
use Rattle.shapes.specs.Members.{placement_cells}
use Rattle.shapes.specs.Positions.{neighbours}
use Rattle.shapes.specs.Shapes.{shape_cells}
use Rattle.shapes.proofs.flooding.flood.Given as goal

abbrev pub invariant-loop-k : goal.invariant-loop-k
invariant-loop-k g l =
    placement_cells l.reached ≡ flooded same_cell (neighbours (g.L.Lattice.directions l.lattice)) origin (shape_cells l.shape) l._k
