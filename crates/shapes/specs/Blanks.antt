-- What stands in an orbit where there is no orientation. Assumes nothing.
--     no_cells           the placement of no cells
--     no_orientation     motion 0 with it
-- Then the proof that this is the default orientation, which no contract means.
use Rattle.std.specs.Prelude.{◌≡◌, ℤ, [], replicate}
use Rattle.std.specs.Coded.{Coded, coded_ℤ, coded×, code_by}
use Rattle.std.proofs.Common.{refl, lit≤}
use Rattle.ordered.specs.Items.{items_of}
use Rattle.ordered.specs.Rooms.{same_list}
use Rattle.lattice.specs.declared.cell.Cell.{Cell}
use Rattle.lattice.specs.Cells.{cell, origin}
use Rattle.shapes.specs.declared.orientation.Orientation.{Orientation}
use Rattle.shapes.specs.declared.placement.Placement.{Placement}

abbrev pub no_cells : Placement
no_cells = record { cells = record { slots = replicate 16 origin; count = 0; few = lit≤ tt; space = refl; blank = refl } }

abbrev pub no_orientation : Orientation
no_orientation = record { motion = 0; placement = no_cells }

coded_cell : Coded Cell
coded_cell = code_by (ℤ × (ℤ × ℤ)) (coded× coded_ℤ (coded× coded_ℤ coded_ℤ)) (λ x. (x.a, (x.b, x.c))) (λ t. cell t.0 t.1.0 t.1.1) (λ _. refl)

default_cells : (p : Placement) → items_of p.cells ≡ [] → p ≡ no_cells
default_cells p e = λ i. record { cells = same_list coded_cell _ _ _ p.cells no_cells.cells e i }

pub default_orientation : (x : Orientation) → (x.motion ≡ 0) × (items_of x.placement.cells ≡ []) → x ≡ no_orientation
default_orientation x h = λ i. record { motion = h.0 i; placement = default_cells x.placement h.1 i }
