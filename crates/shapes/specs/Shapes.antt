-- Shapes as values. Assumes nothing.
--     shape_cells s       the cells of the shape s
--     made r              a result of making a shape, by its cells
--     wide x              the cell with the coordinates x
--     zeros               the coordinates of (0,0,0)
--     if_in_reach x       the cell x, if it is in reach
use Rattle.std.specs.Prelude.{List, Option, Ok, Err, Result, pos}
use Rattle.std.specs.Bool.{then_some}
use Rattle.ordered.specs.Items.{items_of}
use Rattle.lattice.specs.declared.cell.Cell.{Cell}
use Rattle.lattice.specs.Cells.{cell, in_reach}
use Rattle.shapes.specs.declared.coordinates.Coordinates.{Coordinates}
use Rattle.shapes.specs.declared.shape.Shape.{Shape}
use Rattle.shapes.specs.declared.shape_fault.ShapeFault.{ShapeFault}

abbrev pub shape_cells : Shape → List Cell
shape_cells s = items_of s.cells

abbrev pub made : Result Shape ShapeFault → Result (List Cell) ShapeFault
made (Ok s) = Ok (shape_cells s)
made (Err f) = Err f

abbrev pub wide : Coordinates → Cell
wide x = cell x.a x.b x.c

abbrev pub zeros : Coordinates
zeros = record { a = pos 0; b = pos 0; c = pos 0 }

abbrev pub if_in_reach : Cell → Option Cell
if_in_reach x = then_some (in_reach x) x
