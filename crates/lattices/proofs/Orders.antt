-- Images under the motions of the cubic lattice.
use Rattle.std.proofs.Common.{◌≡◌, ℕ, zero, suc, ◌/◌, ◌%◌, ◌<◌, true, ◌*ℤ◌, sym, ap, ◌∙◌, zero-add, arith}
use Rattle.std.proofs.lemmas.List.FromFn.{length-map-range_with_len, get_or-map-range_with_len}
use Rattle.std.proofs.lemmas.Int.{ints}
use Rattle.std.proofs.lemmas.Bool.{lt-ltb}
use Rattle.lattice.specs.declared.cell.Cell.{Cell}
use Rattle.lattice.specs.Cells.{cell, Within, in_reach}
use Rattle.lattice.specs.Matrices.{image, identity}
use Rattle.lattice.specs.Lattices.{image_under}
use Rattle.lattice.specs.Coordinates.{cell_same, within_says}
use Rattle.lattice.proofs.Products.{image_product}
use Rattle.lattices.proofs.Turns.{SameCoordinates}
use Rattle.lattices.specs.declared.near_cell.NearCell.{NearCell}
use Rattle.lattices.specs.Cubic.{order_of, sign, signs, cubic_motion, cubic_motions}

pub image_in : (g : ℕ) (x : Cell) → g < 48 → in_reach x ≡ true → image_under cubic_motions g x ≡ image (signs (g % 8)) (image (order_of (g / 8)) x)
unfolding cubic_motions cubic_motion
image_in g x h near =
    rw (length-map-range_with_len cubic_motion 0 48, lt-ltb g 48 h, near)
    (ap (λ m. image m x) (get_or-map-range_with_len cubic_motion 0 48 g g identity h (zero-add g)) ∙ image_product (signs (g % 8)) (order_of (g / 8)) x)

-- the coordinates in the order p
abbrev pub ordered_by : ℕ → Cell → Cell
ordered_by zero x = cell x.a x.b x.c
ordered_by (suc zero) x = cell x.b x.c x.a
ordered_by (suc (suc zero)) x = cell x.c x.a x.b
ordered_by (suc (suc (suc zero))) x = cell x.a x.c x.b
ordered_by (suc (suc (suc (suc zero)))) x = cell x.b x.a x.c
ordered_by (suc (suc (suc (suc (suc p))))) x = cell x.c x.b x.a

orders_are : (p : ℕ) (x : Cell) → image (order_of p) x ≡ ordered_by p x
unfolding image
orders_are zero x = cell_same (image (order_of zero) x) (ordered_by zero x) (omega (arith, ints)) (omega (arith, ints)) (omega (arith, ints))
orders_are (suc zero) x = cell_same (image (order_of 1) x) (ordered_by 1 x) (omega (arith, ints)) (omega (arith, ints)) (omega (arith, ints))
orders_are (suc (suc zero)) x = cell_same (image (order_of 2) x) (ordered_by 2 x) (omega (arith, ints)) (omega (arith, ints)) (omega (arith, ints))
orders_are (suc (suc (suc zero))) x = cell_same (image (order_of 3) x) (ordered_by 3 x) (omega (arith, ints)) (omega (arith, ints)) (omega (arith, ints))
orders_are (suc (suc (suc (suc zero)))) x = cell_same (image (order_of 4) x) (ordered_by 4 x) (omega (arith, ints)) (omega (arith, ints)) (omega (arith, ints))
orders_are (suc (suc (suc (suc (suc p))))) x = cell_same (image (order_of (suc (suc (suc (suc (suc p)))))) x) (cell x.c x.b x.a) (omega (arith, ints)) (omega (arith, ints)) (omega (arith, ints))

-- the cell y is x in the order p, coordinate by coordinate
pub in_order : (order p : ℕ) → order ≡ p → (x : NearCell) (y : Cell) → (Within 15 x.cell → SameCoordinates y (ordered_by p x.cell)) → y ≡ image (order_of order) x.cell
in_order order p e x y same = let t = same (within_says 15 x.cell x.near) in rw e (cell_same y (ordered_by p x.cell) t.0 t.1 t.2 ∙ sym (orders_are p x.cell))

pub signs_are : (s : ℕ) (x : Cell) → image (signs s) x ≡ cell (sign (s % 2) *ℤ x.a) (sign (s / 2 % 2) *ℤ x.b) (sign (s / 4 % 2) *ℤ x.c)
unfolding image
signs_are s x = cell_same (image (signs s) x) (cell (sign (s % 2) *ℤ x.a) (sign (s / 2 % 2) *ℤ x.b) (sign (s / 4 % 2) *ℤ x.c)) (omega (arith, ints)) (omega (arith, ints)) (omega (arith, ints))
