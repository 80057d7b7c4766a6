-- Sums and differences of cells, their order, and the images of them.
use Rattle.std.proofs.Common.{◌≡◌, ℤ, ◌+ℤ◌, ◌-ℤ◌, ◌*ℤ◌, sym, ap, ◌∙◌, arith}
use lib.Signed.{lt_z}
use Rattle.std.proofs.lemmas.Int.{ints}
use Rattle.lattice.specs.declared.cell.Cell.{Cell}
use Rattle.lattice.specs.Cells.{origin, opposite, cell_less, plus, minus}
use Rattle.lattice.specs.Matrices.{Matrix, dot, image}
use Rattle.lattice.specs.Coordinates.{cell_same}
use Rattle.lattice.proofs.Integers.{mul_add}

-- ---- the order
less_minus : (x y d : ℤ) → lt_z (x -ℤ d) (y -ℤ d) ≡ lt_z x y
less_minus x y d = grind (arith, ints)

pub cell_less_minus : (x y d : Cell) → cell_less (minus x d) (minus y d) ≡ cell_less x y
cell_less_minus x y d = simp less_minus

-- ---- sums and differences
pub minus_origin : (x : Cell) → minus x origin ≡ x
minus_origin x = cell_same (minus x origin) x (omega (arith, ints)) (omega (arith, ints)) (omega (arith, ints))

pub minus_self : (x : Cell) → minus x x ≡ origin
minus_self x = cell_same (minus x x) origin (omega (arith, ints)) (omega (arith, ints)) (omega (arith, ints))

pub minus_minus : (x y d : Cell) → minus (minus x d) (minus y d) ≡ minus x y
minus_minus x y d = cell_same (minus (minus x d) (minus y d)) (minus x y) (omega (arith, ints)) (omega (arith, ints)) (omega (arith, ints))

pub minus_plus : (x d y : Cell) → minus (plus x d) y ≡ plus (minus x y) d
minus_plus x d y = cell_same (minus (plus x d) y) (plus (minus x y) d) (omega (arith, ints)) (omega (arith, ints)) (omega (arith, ints))

pub plus_minus : (x y : Cell) → plus (minus x y) y ≡ x
plus_minus x y = cell_same (plus (minus x y) y) x (omega (arith, ints)) (omega (arith, ints)) (omega (arith, ints))

pub minus_plus_self : (x y : Cell) → minus (plus x y) y ≡ x
minus_plus_self x y = cell_same (minus (plus x y) y) x (omega (arith, ints)) (omega (arith, ints)) (omega (arith, ints))

-- a step and the step back
pub plus_opposite : (x d : Cell) → plus (plus x d) (opposite d) ≡ x
plus_opposite x d = cell_same (plus (plus x d) (opposite d)) x (omega (arith, ints)) (omega (arith, ints)) (omega (arith, ints))

-- ---- images
-- over plain variables, so that `omega` meets no product
regroup : (p q r s t u : ℤ) → (p +ℤ s) +ℤ (q +ℤ t) +ℤ (r +ℤ u) ≡ (p +ℤ q +ℤ r) +ℤ (s +ℤ t +ℤ u)
regroup p q r s t u = omega (arith, ints)

dot_plus : (r x y : Cell) → dot r (plus x y) ≡ dot r x +ℤ dot r y
dot_plus r x y = rw (mul_add r.a x.a y.a, mul_add r.b x.b y.b, mul_add r.c x.c y.c) (regroup (r.a *ℤ x.a) (r.b *ℤ x.b) (r.c *ℤ x.c) (r.a *ℤ y.a) (r.b *ℤ y.b) (r.c *ℤ y.c))

pub image_plus : (m : Matrix) (x y : Cell) → image m (plus x y) ≡ plus (image m x) (image m y)
unfolding image
image_plus m x y = cell_same (image m (plus x y)) (plus (image m x) (image m y)) (dot_plus m.to_a x y) (dot_plus m.to_b x y) (dot_plus m.to_c x y)

pub image_minus : (m : Matrix) (x y : Cell) → image m (minus x y) ≡ minus (image m x) (image m y)
image_minus m x y =
    sym (minus_plus_self (image m (minus x y)) (image m y)) ∙ ap (λ (z : Cell). minus z (image m y)) (sym (image_plus m (minus x y) y) ∙ ap (image m) (plus_minus x y))
