-- The worked examples of the rules, as one statement about the definitions. Assumes nothing.
--     at a b c               the cell with these coordinates, none of them negative
--     pair, corner, line     two cells side by side, three about a corner, and three in a row
--     climb, apart           three cells about another corner, and three of which none is next to another
--     square_opening n k     what opening_for gives on the square lattice for the size n and the kind with the number k; so for hex and cubic
--     square_free n          the opening of the square lattice for the size n and the motions 0 to 7; so for hex with 0 to 11 and cubic with 0 to 47
--     WorkedExamples         each example, by its name
use Rattle.std.specs.Prelude.{◌≡◌, ℕ, List, [], ◌∷◌, take, pos, Some, Ok, Err, Result}
use Rattle.std.specs.List.{range_with_len}
use Rattle.lattice.specs.declared.cell.Cell.{Cell}
use Rattle.lattice.specs.Cells.{cell}
use Rattle.lattice.specs.Lattices.{number_after}
use Rattle.lattices.specs.Square.{square_directions, square_motions, square_one_sided}
use Rattle.lattices.specs.Hex.{hex_directions, hex_motions, hex_one_sided}
use Rattle.lattices.specs.Cubic.{cubic_directions, cubic_motions, cubic_one_sided}
use Rattle.shapes.specs.declared.shape_fault.ShapeFault.TheVariants.{Reach, Order}
use Rattle.shapes.specs.Entries.{values}
use Rattle.shapes.specs.Faults.{shape_or_fault, fault_number}
use Rattle.walk.specs.CellsAround.{cells_around}
use Rattle.walk.specs.Listings.{all_picks}
use Rattle.walk.specs.Walks.{pick_list}
use Rattle.listing.specs.declared.whereabouts.Whereabouts.TheVariants.{Given, ToCome, Foreign}
use Rattle.listing.specs.Made.{listing}
use Rattle.listing.specs.Openings.{Opening, opening, opening_for}
use Rattle.listing.specs.Whereabouts.{whereabouts_of}

abbrev pub at : ℕ → ℕ → ℕ → Cell
at a b c = cell (pos a) (pos b) (pos c)

abbrev pub pair : List Cell
pair = at 0 0 0 ∷ at 1 0 0 ∷ []

abbrev pub corner : List Cell
corner = at 0 0 0 ∷ at 1 0 0 ∷ at 0 1 0 ∷ []

abbrev pub line : List Cell
line = at 0 0 0 ∷ at 1 0 0 ∷ at 2 0 0 ∷ []

abbrev pub climb : List Cell
climb = at 0 0 0 ∷ at 0 1 0 ∷ at 1 1 0 ∷ []

abbrev pub apart : List Cell
apart = at 0 0 0 ∷ at 1 1 0 ∷ at 2 2 0 ∷ []

abbrev pub square_opening : ℕ → ℕ → Result Opening ℕ
square_opening n k = opening_for square_directions square_motions square_one_sided n k

abbrev pub hex_opening : ℕ → ℕ → Result Opening ℕ
hex_opening n k = opening_for hex_directions hex_motions hex_one_sided n k

abbrev pub cubic_opening : ℕ → ℕ → Result Opening ℕ
cubic_opening n k = opening_for cubic_directions cubic_motions cubic_one_sided n k

abbrev pub square_free : ℕ → Opening
square_free n = opening square_directions square_motions n (range_with_len 0 8)

abbrev pub hex_free : ℕ → Opening
hex_free n = opening hex_directions hex_motions n (range_with_len 0 12)

abbrev pub cubic_free : ℕ → Opening
cubic_free n = opening cubic_directions cubic_motions n (range_with_len 0 48)

pub record WorkedExamples : Type 0 where
  -- Motions: "g after h" does h first.
  pub square_4_after_1 : number_after square_motions 4 1 ≡ 7
  pub cubic_8_after_1 : number_after cubic_motions 8 1 ≡ 12
  -- Shapes: coordinates go up to 15, and cells ascend.
  pub reach_15 : shape_or_fault (at 0 0 0 ∷ at 15 0 0 ∷ []) ≡ Ok (at 0 0 0 ∷ at 15 0 0 ∷ [])
  pub reach_16 : shape_or_fault (at 0 0 0 ∷ at 16 0 0 ∷ []) ≡ Err (Reach 1)
  pub reach_number : fault_number (Reach 1) ≡ 4
  pub twice : shape_or_fault (at 0 0 0 ∷ at 0 0 0 ∷ []) ≡ Err (Order 1)
  pub order_number : fault_number (Order 1) ≡ 5
  -- Pick lists: that of one shape, and all of three picks.
  pub square_pick_list : pick_list (cells_around square_directions) (at 0 0 0 ∷ at 1 0 0 ∷ at 1 1 0 ∷ []) ≡ Some (0 ∷ 1 ∷ 4 ∷ [])
  pub square_all_picks : all_picks (cells_around square_directions) 3 ≡ (0 ∷ 1 ∷ 2 ∷ []) ∷ (0 ∷ 1 ∷ 3 ∷ []) ∷ (0 ∷ 1 ∷ 4 ∷ []) ∷ (0 ∷ 2 ∷ 3 ∷ []) ∷ (0 ∷ 2 ∷ 4 ∷ []) ∷ (0 ∷ 2 ∷ 5 ∷ []) ∷ []
  -- Openings: the size is tested first, then the kind.
  pub size_0 : square_opening 0 2 ≡ Err 1
  pub size_17 : square_opening 17 2 ≡ Err 1
  pub size_0_kind_3 : square_opening 0 3 ≡ Err 1
  pub size_17_kind_3 : square_opening 17 3 ≡ Err 1
  pub kind_3 : square_opening 3 3 ≡ Err 2
  pub size_16 : square_opening 16 2 ≡ Ok (square_free 16)
  -- The list of the free classes of three cells on the square lattice, and where the class of a shape is after one next.
  pub square_opens : square_opening 3 2 ≡ Ok (square_free 3)
  pub square_listing : listing (square_free 3) ≡ values corner (0 ∷ 4 ∷ []) 4 ∷ values line (0 ∷ 2 ∷ 5 ∷ 7 ∷ []) 2 ∷ []
  pub given : whereabouts_of (square_free 3) (take 1 (listing (square_free 3))) climb ≡ Given
  pub to_come : whereabouts_of (square_free 3) (take 1 (listing (square_free 3))) line ≡ ToCome
  pub foreign : whereabouts_of (square_free 3) (take 1 (listing (square_free 3))) apart ≡ Foreign
  -- The lists of the free classes of two cells on the other lattices.
  pub hex_opens : hex_opening 2 2 ≡ Ok (hex_free 2)
  pub hex_listing : listing (hex_free 2) ≡ values pair (0 ∷ 3 ∷ 8 ∷ 11 ∷ []) 3 ∷ []
  pub cubic_opens : cubic_opening 2 2 ≡ Ok (cubic_free 2)
  pub cubic_listing : listing (cubic_free 2) ≡ values pair (0 ∷ 1 ∷ 2 ∷ 3 ∷ 4 ∷ 5 ∷ 6 ∷ 7 ∷ 24 ∷ 25 ∷ 26 ∷ 27 ∷ 28 ∷ 29 ∷ 30 ∷ 31 ∷ []) 3 ∷ []
