-- Images under the motions of a lattice of the plane, and what the turns of each do to a cell.
use Rattle.std.proofs.Common.{◌≡◌, ℕ, zero, suc, ◌+◌, ◌-◌, ◌*◌, ◌/◌, ◌%◌, ◌<◌, ◌≤◌, true, ◌+ℤ◌, neg_ℤ, sym, ap, ◌∙◌, mod-eq_of_lt, zero-add, arith}
use native.Mathlib.Nat.{div-eq_of_lt}
use Rattle.std.proofs.lemmas.Nat.{div-mul-add, mod-mul-add}
use Rattle.std.proofs.lemmas.List.FromFn.{get_or-map-range_with_len}
use Rattle.std.proofs.lemmas.Int.{ints}
use Rattle.std.proofs.lemmas.Bool.{lt-ltb}
use Rattle.lattice.specs.declared.cell.Cell.{Cell}
use Rattle.lattice.specs.Cells.{cell, Within, in_reach}
use Rattle.lattice.specs.Matrices.{Matrix, image, identity}
use Rattle.lattice.specs.Lattices.{image_under}
use Rattle.lattice.specs.Coordinates.{cell_same, within_says}
use Rattle.lattice.proofs.Products.{image_product, image_identity}
use Rattle.lattices.specs.declared.near_cell.NearCell.{NearCell}
use Rattle.lattices.specs.Plane.{swap, swaps, turns, plane_motion, plane_motions}
use Rattle.lattices.proofs.Counts.{plane_count}
use Rattle.lattices.specs.Square.{square_turn}
use Rattle.lattices.specs.Hex.{hex_turn}

module _ (turn : Matrix) (n g : ℕ) (x : Cell) where
  -- in range and in reach
  image_in : g < 2 * n → in_reach x ≡ true → image_under (plane_motions turn n) g x ≡ image (turns turn (g % n)) (image (swaps (g / n)) x)
  image_in h near =
      rw (plane_count turn n, lt-ltb g (2 * n) h, near)
      (ap (λ m. image m x) (get_or-map-range_with_len (plane_motion turn n) 0 (2 * n) g g identity h (zero-add g)) ∙ image_product (turns turn (g % n)) (swaps (g / n)) x)

  pub image_turn : g < n → in_reach x ≡ true → image_under (plane_motions turn n) g x ≡ image (turns turn g) x
  image_turn h near =
      image_in (omega arith) near
      ∙ ap (λ k. image (turns turn k) (image (swaps (g / n)) x)) (mod-eq_of_lt h)
      ∙ ap (λ k. image (turns turn g) (image (swaps k) x)) (div-eq_of_lt h)
      ∙ ap (image (turns turn g)) (image_identity x)

  pub image_swap : n ≤ g → g < 2 * n → in_reach x ≡ true → image_under (plane_motions turn n) g x ≡ image (turns turn (g - n)) (image swap x)
  image_swap l h near =
      let e : g ≡ 1 * n + (g - n) = omega arith in
      let k : g - n < n = omega arith in
      image_in h near
      ∙ ap (λ j. image (turns turn j) (image (swaps (g / n)) x)) (ap (λ j. j % n) e ∙ mod-mul-add 1 n (g - n) k)
      ∙ ap (λ j. image (turns turn (g - n)) (image (swaps j) x)) (ap (λ j. j / n) e ∙ div-mul-add 1 n (g - n) k)

pub swap_is : (x : Cell) → image swap x ≡ cell x.b x.a x.c
unfolding image swap
swap_is x = cell_same (image swap x) (cell x.b x.a x.c) (omega (arith, ints)) (omega (arith, ints)) (omega (arith, ints))

abbrev pub SameCoordinates : Cell → Cell → Type 0
SameCoordinates y z = (y.a ≡ z.a) × (y.b ≡ z.b) × (y.c ≡ z.c)

-- what one turn does, again and again
abbrev pub turned_by : (Cell → Cell) → ℕ → Cell → Cell
turned_by once zero x = x
turned_by once (suc k) x = once (turned_by once k x)

turns_are : (turn : Matrix) (once : Cell → Cell) → ((x : Cell) → image turn x ≡ once x) → (k : ℕ) (x : Cell) → image (turns turn k) x ≡ turned_by once k x
turns_are turn once is zero x = image_identity x
turns_are turn once is (suc k) x = image_product turn (turns turn k) x ∙ is (image (turns turn k) x) ∙ ap once (turns_are turn once is k x)

abbrev pub square_once : Cell → Cell
square_once x = cell (neg_ℤ x.b) x.a x.c

square_turn_is : (x : Cell) → image square_turn x ≡ square_once x
unfolding image square_turn
square_turn_is x = cell_same (image square_turn x) (square_once x) (omega (arith, ints)) (omega (arith, ints)) (omega (arith, ints))

abbrev pub hex_once : Cell → Cell
hex_once x = cell (neg_ℤ x.b) (x.a +ℤ x.b) x.c

hex_turn_is : (x : Cell) → image hex_turn x ≡ hex_once x
unfolding image hex_turn
hex_turn_is x = cell_same (image hex_turn x) (hex_once x) (omega (arith, ints)) (omega (arith, ints)) (omega (arith, ints))

-- the cell y is x turned k times, coordinate by coordinate
module _ (times k : ℕ) (e : times ≡ k) (x : NearCell) (y : Cell) where
  pub square_turned : (Within 15 x.cell → SameCoordinates y (turned_by square_once k x.cell)) → y ≡ image (turns square_turn times) x.cell
  square_turned same = let t = same (within_says 15 x.cell x.near) in rw e (cell_same y (turned_by square_once k x.cell) t.0 t.1 t.2 ∙ sym (turns_are square_turn square_once square_turn_is k x.cell))

  pub hex_turned : (Within 15 x.cell → SameCoordinates y (turned_by hex_once k x.cell)) → y ≡ image (turns hex_turn times) x.cell
  hex_turned same = let t = same (within_says 15 x.cell x.near) in rw e (cell_same y (turned_by hex_once k x.cell) t.0 t.1 t.2 ∙ sym (turns_are hex_turn hex_once hex_turn_is k x.cell))
