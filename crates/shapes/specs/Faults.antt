-- What is tested of the cells of a shape, and the first fault. Assumes nothing.
--     fault_number f            the refusal's number of the fault f
--     fault_place f             the place of the cell at fault, counted from 0; 0 for the count of cells
--     cell_fault i before x     what is wrong with the cell x at place i behind the cell before it, if there is one
--     first_fault i before xs   the first fault of the cells xs, whose first is at place i
--     shape_fault xs            the first fault of xs as a shape: its count of cells, then cell by cell, reach before order
--     shape_or_fault xs         xs itself where it has no fault, or the fault
--     arranged_or_fault xs      the different cells of xs, ascending, where they have no fault, or the fault; the count's, if xs has more than 16 cells
use Rattle.std.specs.Prelude.{ℕ, suc, Bool, cond, ◌&&◌, List, [], ◌∷◌, length, Some, None, Ok, Err, Option, Result, nat_le}
use Rattle.std.specs.Ordering.{is_eq}
use Rattle.ordered.specs.Lookups.{sorted}
use Rattle.ordered.specs.Orders.{rank}
use Rattle.lattice.specs.declared.cell.Cell.{Cell}
use Rattle.lattice.specs.Cells.{origin, cell_less, in_reach}
use Rattle.shapes.specs.declared.shape_fault.ShapeFault.{ShapeFault}
use Rattle.shapes.specs.declared.shape_fault.ShapeFault.TheVariants.{Count, Reach, Order}

abbrev pub fault_number : ShapeFault → ℕ
fault_number Count = 1
fault_number (Reach i) = 4
fault_number (Order i) = 5

abbrev pub fault_place : ShapeFault → ℕ
fault_place Count = 0
fault_place (Reach i) = i
fault_place (Order i) = i

-- the first cell is the origin, and every other is greater than the one before
abbrev pub follows : Option Cell → Cell → Bool
follows None x = is_eq (rank cell_less x origin)
follows (Some y) x = cell_less y x

abbrev pub cell_fault : ℕ → Option Cell → Cell → Option ShapeFault
cell_fault i before x = cond (in_reach x) (cond (follows before x) None (Some (Order i))) (Some (Reach i))

abbrev pub or_later : Option ShapeFault → Option ShapeFault → Option ShapeFault
or_later None later = later
or_later (Some f) later = Some f

abbrev pub first_fault : ℕ → Option Cell → List Cell → Option ShapeFault
first_fault i before [] = None
first_fault i before (x ∷ xs) = or_later (cell_fault i before x) (first_fault (suc i) (Some x) xs)

abbrev pub shape_fault : List Cell → Option ShapeFault
shape_fault xs = cond (nat_le 1 (length xs) && nat_le (length xs) 16) (first_fault 0 None xs) (Some Count)

abbrev pub unless : {X : Type 0} → X → Option ShapeFault → Result X ShapeFault
unless x None = Ok x
unless x (Some f) = Err f

abbrev pub shape_or_fault : List Cell → Result (List Cell) ShapeFault
shape_or_fault xs = unless xs (shape_fault xs)

abbrev pub arranged_or_fault : List Cell → Result (List Cell) ShapeFault
arranged_or_fault xs = cond (nat_le (length xs) 16) (shape_or_fault (sorted cell_less xs)) (Err Count)
