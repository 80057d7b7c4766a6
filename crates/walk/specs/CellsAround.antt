-- The cells of a lattice as a walk sees them. Assumes nothing.
--     cells_around ds     the neighbours of a cell are the cells one direction of ds away, in their order; the start is (0,0,0), and above it are the greater cells
use Rattle.std.proofs.Common.{ap}
use Rattle.std.specs.Prelude.{List, refl}
use Rattle.std.specs.Ordering.{is_eq}
use Rattle.ordered.specs.Orders.{rank}
use Rattle.ordered.proofs.Orders.{is_equal, same_rank, equal_rank}
use Rattle.lattice.specs.declared.cell.Cell.{Cell}
use Rattle.lattice.specs.Cells.{origin, cell_less}
use Rattle.lattice.specs.Coordinates.{cell_order}
use Rattle.shapes.specs.Floods.{same_cell}
use Rattle.shapes.specs.Positions.{neighbours}
use Rattle.walk.specs.Neighbourhoods.{Neighbourhood}

unfoldable pub cells_around : List Cell → Neighbourhood Cell
cells_around ds = record {
  same = same_cell;
  same_sound = λ x y e. same_rank cell_less cell_order x y (is_equal (rank cell_less x y) e);
  same_refl = λ x. ap is_eq (equal_rank cell_less cell_order x x refl);
  near = neighbours ds;
  above = cell_less origin;
  start = origin;
}
