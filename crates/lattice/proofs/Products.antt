-- A product of matrices does the second first and then the first; the test of equality of matrices.
use Rattle.std.proofs.Common.{◌≡◌, Bool, ℤ, ◌+ℤ◌, ◌*ℤ◌, ap, arith}
use lib.Signed.{lt_z}
use Rattle.std.proofs.lemmas.Int.{ints}
use Rattle.lattice.specs.declared.cell.Cell.{Cell}
use Rattle.std.specs.Ordering.{is_eq}
use Rattle.ordered.specs.Orders.{comparison}
use Rattle.ordered.proofs.Counting.{Equality}
use Rattle.ordered.proofs.Orders.{comparison_equality}
use Rattle.lattice.specs.Cells.{coordinates}
use Rattle.lattice.specs.Matrices.{Matrix, dot, image, row_times, product, identity, entries, same_matrix}
use Rattle.lattice.specs.Coordinates.{cell_same, coordinates_same, whole_order}
use Rattle.lattice.proofs.Integers.{mul_add, add_mul, mul_assoc}

-- over plain variables, so that `omega` meets no product
regroup : (p q r s t u v w x : ℤ) → (p +ℤ q +ℤ r) +ℤ (s +ℤ t +ℤ u) +ℤ (v +ℤ w +ℤ x) ≡ (p +ℤ s +ℤ v) +ℤ (q +ℤ t +ℤ w) +ℤ (r +ℤ u +ℤ x)
regroup p q r s t u v w x = omega (arith, ints)

dot_row : (r : Cell) (m : Matrix) (x : Cell) → dot (row_times r m) x ≡ dot r (image m x)
unfolding row_times image
dot_row r m x =
    simp (mul_add, add_mul, mul_assoc)
    (regroup
    (r.a *ℤ (m.to_a.a *ℤ x.a)) (r.b *ℤ (m.to_b.a *ℤ x.a)) (r.c *ℤ (m.to_c.a *ℤ x.a))
    (r.a *ℤ (m.to_a.b *ℤ x.b)) (r.b *ℤ (m.to_b.b *ℤ x.b)) (r.c *ℤ (m.to_c.b *ℤ x.b))
    (r.a *ℤ (m.to_a.c *ℤ x.c)) (r.b *ℤ (m.to_b.c *ℤ x.c)) (r.c *ℤ (m.to_c.c *ℤ x.c)))

pub image_product : (g h : Matrix) (x : Cell) → image (product g h) x ≡ image g (image h x)
unfolding image product
image_product g h x = cell_same (image (product g h) x) (image g (image h x)) (dot_row g.to_a h x) (dot_row g.to_b h x) (dot_row g.to_c h x)

pub image_identity : (x : Cell) → image identity x ≡ x
unfolding image identity
image_identity x = cell_same (image identity x) x (omega (arith, ints)) (omega (arith, ints)) (omega (arith, ints))

-- ---- equality
pub matrix_same : (g h : Matrix) → g.to_a ≡ h.to_a → g.to_b ≡ h.to_b → g.to_c ≡ h.to_c → g ≡ h
matrix_same g h p q r = λ i. record { to_a = p i; to_b = q i; to_c = r i }

entries_same : (g h : Matrix) → entries g ≡ entries h → g ≡ h
entries_same g h e =
    matrix_same g h
    (cell_same g.to_a h.to_a (cc) (cc) (cc))
    (cell_same g.to_b h.to_b (cc) (cc) (cc))
    (cell_same g.to_c h.to_c (cc) (cc) (cc))

abbrev pub same_cell : Cell → Cell → Bool
same_cell x y = is_eq (comparison lt_z (coordinates x) (coordinates y))

pub cell_equality : Equality same_cell
cell_equality x y =
    let t = comparison_equality lt_z whole_order (coordinates x) (coordinates y) in
    (λ e. coordinates_same x y (t.0 e), λ e. t.1 (ap coordinates e))

pub matrix_equality : Equality same_matrix
unfolding same_matrix
matrix_equality g h =
    let t = comparison_equality lt_z whole_order (entries g) (entries h) in
    (λ e. entries_same g h (t.0 e), λ e. t.1 (ap entries e))
