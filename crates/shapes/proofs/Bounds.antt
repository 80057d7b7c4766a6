-- How far an image or a difference of cells may be: what keeps the arithmetic of the code within its type.
use Rattle.std.proofs.Common.{◌≡◌, ℕ, zero, suc, ◌+◌, ◌*◌, ◌<◌, ◌≤◌, Bool, true, false, ◌&&◌, T, ◌⊎◌, List, length, ℤ, pos, negsuc, ◌+ℤ◌, ◌*ℤ◌, neg_ℤ, nat_abs, ◌≤ℤ◌, refl, ap, inl, inr, arith}
use lib.Signed.{le_z}
use Rattle.std.proofs.lemmas.Int.{ints}
use Rattle.std.proofs.lemmas.Bool.{and_from, lt-ltb}
use Rattle.lattice.specs.declared.cell.Cell.{Cell}
use Rattle.lattice.specs.Cells.{Within, from_to, within, plus, minus}
use Rattle.lattice.specs.Matrices.{Matrix, dot, image, Small}
use Rattle.lattice.specs.Lattices.{motion, image_under}
use Rattle.shapes.specs.Positions.{ShortOf}

-- z lies from −r to r
abbrev Between : ℕ → ℤ → Type 0
Between r z = (neg_ℤ (pos r) ≤ℤ z) × (z ≤ℤ pos r)

unit_cases : (e : ℤ) → Between 1 e → (e ≡ negsuc 0) ⊎ ((e ≡ pos 0) ⊎ (e ≡ pos 1))
unit_cases (pos zero) b = inr (inl refl)
unit_cases (pos (suc n)) b = inr (inr (ap pos (omega (arith, ints))))
unit_cases (negsuc n) b = inl (ap negsuc (omega (arith, ints)))

-- an entry −1, 0 or 1 times a coordinate
times_unit : (r : ℕ) (e x : ℤ) → Between 1 e → Between r x → Between r (e *ℤ x)
times_unit r e x b p = go (unit_cases e b)
  where
    go : (e ≡ negsuc 0) ⊎ ((e ≡ pos 0) ⊎ (e ≡ pos 1)) → Between r (e *ℤ x)
    go (inl f) = rw f (omega (arith, ints), omega (arith, ints))
    go (inr (inl f)) = rw f (omega (arith, ints), omega (arith, ints))
    go (inr (inr f)) = rw f (omega (arith, ints), omega (arith, ints))

-- over plain variables, so that `omega` meets no product
sum_within : (r : ℕ) (u v w : ℤ) → Between r u → Between r v → Between r w → Between (3 * r) (u +ℤ v +ℤ w)
sum_within r u v w p q s = (omega (arith, ints), omega (arith, ints))

dot_within : (r : ℕ) (e x : Cell) → Within 1 e → Within r x → Between (3 * r) (dot e x)
dot_within r e x p q =
    sum_within r (e.a *ℤ x.a) (e.b *ℤ x.b) (e.c *ℤ x.c)
    (times_unit r e.a x.a (p.0, p.1) (q.0, q.1))
    (times_unit r e.b x.b (p.2, p.3) (q.2, q.3))
    (times_unit r e.c x.c (p.4, p.5) (q.4, q.5))

pub image_within : (r : ℕ) (m : Matrix) (x : Cell) → Small m → Within r x → Within (3 * r) (image m x)
unfolding image
image_within r m x p q =
    let a = dot_within r m.to_a x p.0 q in
    let b = dot_within r m.to_b x p.1 q in
    let c = dot_within r m.to_c x p.2 q in
    (a.0, a.1, b.0, b.1, c.0, c.1)

pub image_within_45 : (m : Matrix) (x : Cell) → Small m → Within 15 x → Within 45 (image m x)
image_within_45 = image_within 15

pub plus_within : (r q : ℕ) (x y : Cell) → Within r x → Within q y → Within (r + q) (plus x y)
plus_within r q x y p s = (omega (arith, ints), omega (arith, ints), omega (arith, ints), omega (arith, ints), omega (arith, ints), omega (arith, ints))

pub minus_within : (r q : ℕ) (x y : Cell) → Within r x → Within q y → Within (r + q) (minus x y)
minus_within r q x y p s = (omega (arith, ints), omega (arith, ints), omega (arith, ints), omega (arith, ints), omega (arith, ints), omega (arith, ints))

pub minus_within_90 : (x y : Cell) → Within 45 x → Within 45 y → Within 90 (minus x y)
minus_within_90 = minus_within 45 45

pub within_more : (r q : ℕ) (x : Cell) → r ≤ q → Within r x → Within q x
within_more r q x l p = (omega (arith, ints), omega (arith, ints), omega (arith, ints), omega (arith, ints), omega (arith, ints), omega (arith, ints))

-- ---- what is short of a number
small_bounds : (r : ℕ) (z : ℤ) → nat_abs z < r + 1 → Between r z
small_bounds r (pos n) h = (omega (arith, ints), omega (arith, ints))
small_bounds r (negsuc n) h = (omega (arith, ints), omega (arith, ints))

pub short_within : (r : ℕ) (x : Cell) → ShortOf (r + 1) x → Within r x
short_within r x h =
    let a = small_bounds r x.a h.0 in
    let b = small_bounds r x.b h.1 in
    let c = small_bounds r x.c h.2 in
    (a.0, a.1, b.0, b.1, c.0, c.1)

-- ---- the test
T_true : (b : Bool) → T b → b ≡ true
T_true true h = refl
T_true false h = absurd h

from_to_test : (r : ℕ) (z : ℤ) → Between r z → from_to r z ≡ true
from_to_test r z b = and_from (le_z (neg_ℤ (pos r)) z) (le_z z (pos r)) (T_true (le_z (neg_ℤ (pos r)) z) b.0.le) (T_true (le_z z (pos r)) b.1.le)

pub within_test : (r : ℕ) (x : Cell) → Within r x → within r x ≡ true
within_test r x p =
    and_from (from_to r x.a) (from_to r x.b && from_to r x.c) (from_to_test r x.a (p.0, p.1))
    (and_from (from_to r x.b) (from_to r x.c) (from_to_test r x.b (p.2, p.3)) (from_to_test r x.c (p.4, p.5)))

-- in reach, what a lattice answers is the image
pub image_under_is : (ms : List Matrix) (g : ℕ) (x : Cell) → g < length ms → Within 15 x → image_under ms g x ≡ image (motion ms g) x
image_under_is ms g x l p = rw (lt-ltb g (length ms) l, within_test 15 x p)
