-- A matrix by the images of the three cells next to the origin.
use Rattle.std.proofs.Common.{◌≡◌, ℕ, Bool, true, false, cond, ◌&&◌, ltb, List, length, ℤ, pos, refl, ◌∙◌, arith}
use Rattle.std.proofs.lemmas.Int.{ints}
use Rattle.lattice.specs.declared.cell.Cell.{Cell}
use Rattle.lattice.specs.Cells.{cell, origin, in_reach}
use Rattle.lattice.specs.Matrices.{Matrix, image}
use Rattle.lattice.specs.Lattices.{motion, image_under}
use Rattle.lattice.specs.Rows.{matrix_under}
use Rattle.lattice.specs.Coordinates.{cell_same}

abbrev pub unit_a : Cell
unit_a = cell (pos 1) (pos 0) (pos 0)

abbrev pub unit_b : Cell
unit_b = cell (pos 0) (pos 1) (pos 0)

abbrev pub unit_c : Cell
unit_c = cell (pos 0) (pos 0) (pos 1)

abbrev column : (Cell → ℤ) → Matrix → Cell
column part m = cell (part m.to_a) (part m.to_b) (part m.to_c)

image_a : (m : Matrix) → image m unit_a ≡ column (λ x. x.a) m
unfolding image
image_a m = cell_same (image m unit_a) (column (λ x. x.a) m) (omega (arith, ints)) (omega (arith, ints)) (omega (arith, ints))

image_b : (m : Matrix) → image m unit_b ≡ column (λ x. x.b) m
unfolding image
image_b m = cell_same (image m unit_b) (column (λ x. x.b) m) (omega (arith, ints)) (omega (arith, ints)) (omega (arith, ints))

image_c : (m : Matrix) → image m unit_c ≡ column (λ x. x.c) m
unfolding image
image_c m = cell_same (image m unit_c) (column (λ x. x.c) m) (omega (arith, ints)) (omega (arith, ints)) (omega (arith, ints))

module _ (ms : List Matrix) (g : ℕ) where
  under : (x : Cell) (part : Cell → ℤ) → in_reach x ≡ true → part origin ≡ pos 0 → ((m : Matrix) → image m x ≡ column part m) → image_under ms g x ≡ column part (matrix_under ms g)
  under x part near zeroth is = go (ltb g (length ms))
    where
      go : (b : Bool) → cond (b && in_reach x) (image (motion ms g) x) origin ≡ column part (cond b (motion ms g) (record { to_a = origin; to_b = origin; to_c = origin }))
      go true = rw near (is (motion ms g))
      go false = rw zeroth refl

  pub under_a : image_under ms g unit_a ≡ column (λ x. x.a) (matrix_under ms g)
  under_a = under unit_a (λ x. x.a) refl refl image_a

  pub under_b : image_under ms g unit_b ≡ column (λ x. x.b) (matrix_under ms g)
  under_b = under unit_b (λ x. x.b) refl refl image_b

  pub under_c : image_under ms g unit_c ≡ column (λ x. x.c) (matrix_under ms g)
  under_c = under unit_c (λ x. x.c) refl refl image_c

-- the columns are x, y and z, so these are its rows
pub by_columns : (m : Matrix) (x y z : Cell) → x ≡ column (λ w. w.a) m → y ≡ column (λ w. w.b) m → z ≡ column (λ w. w.c) m → (r : Matrix) → r ≡ record { to_a = cell x.a y.a z.a; to_b = cell x.b y.b z.b; to_c = cell x.c y.c z.c } → r ≡ m
by_columns m x y z p q s r e = e ∙ rw (p, q, s) refl
