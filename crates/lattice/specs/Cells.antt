-- Cells: three whole numbers a, b, c, ordered by c, then b, then a. Assumes nothing.
--     cell a b c         the cell with these coordinates
--     origin             (0,0,0)
--     opposite x         the negative of x
--     plus x y, minus x y the sum and the difference, coordinate by coordinate
--     Fits x             the coordinates of x are in the range of a cell's
--     cell_less x y      x comes before y
--     Within r x         every coordinate of x lies from −r to r; `within r x` is its test
--     in_reach x         every coordinate of x lies from −15 to 15
use Rattle.std.specs.Prelude.{ℕ, Bool, ◌&&◌, List, [], ◌∷◌, ℤ, pos, neg_ℤ, ◌+ℤ◌, ◌-ℤ◌, ◌≤ℤ◌, int_le, int_lt, FitsSigned}
use Rattle.std.specs.Int.{w8}
use Rattle.ordered.specs.Orders.{list_less}
use Rattle.lattice.specs.declared.cell.Cell.{Cell}

abbrev pub cell : ℤ → ℤ → ℤ → Cell
cell a b c = record { a = a; b = b; c = c }

abbrev pub origin : Cell
origin = cell (pos 0) (pos 0) (pos 0)

abbrev pub opposite : Cell → Cell
opposite x = cell (neg_ℤ x.a) (neg_ℤ x.b) (neg_ℤ x.c)

abbrev pub plus : Cell → Cell → Cell
plus x y = cell (x.a +ℤ y.a) (x.b +ℤ y.b) (x.c +ℤ y.c)

abbrev pub minus : Cell → Cell → Cell
minus x y = cell (x.a -ℤ y.a) (x.b -ℤ y.b) (x.c -ℤ y.c)

abbrev pub Fits : Cell → Type 0
Fits x = FitsSigned w8 x.a × FitsSigned w8 x.b × FitsSigned w8 x.c

-- the coordinates, the one that decides first in front
abbrev pub coordinates : Cell → List ℤ
coordinates x = x.c ∷ x.b ∷ x.a ∷ []

abbrev pub cell_less : Cell → Cell → Bool
cell_less x y = list_less int_lt (coordinates x) (coordinates y)

abbrev pub Within : ℕ → Cell → Type 0
Within r x =
    (neg_ℤ (pos r) ≤ℤ x.a) × (x.a ≤ℤ pos r) × (neg_ℤ (pos r) ≤ℤ x.b) × (x.b ≤ℤ pos r) × (neg_ℤ (pos r) ≤ℤ x.c) × (x.c ≤ℤ pos r)

-- z lies from −r to r, and so does every coordinate of x: tests
abbrev pub from_to : ℕ → ℤ → Bool
from_to r z = int_le (neg_ℤ (pos r)) z && int_le z (pos r)

abbrev pub within : ℕ → Cell → Bool
within r x = from_to r x.a && (from_to r x.b && from_to r x.c)

abbrev pub in_reach : Cell → Bool
in_reach x = within 15 x
