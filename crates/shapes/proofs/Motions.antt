-- What the motions of a lattice do to cells, by its rules: each is undone by another, and no two do the same.
use Rattle.std.proofs.Common.{◌≡◌, ℕ, ◌<◌, Bool, List, map, length, pos, sym, refl, ap, ◌∙◌, arith}
use Rattle.std.proofs.lemmas.Int.{ints}
use Rattle.ordered.specs.Members.{In, NoRepeats}
use Rattle.ordered.proofs.Members.{in_get_or, no_repeats_map, no_repeats_place}
use Rattle.lattice.specs.declared.cell.Cell.{Cell}
use Rattle.lattice.specs.Cells.{cell}
use Rattle.lattice.specs.Matrices.{Matrix, dot, image, identity}
use Rattle.lattice.specs.Lattices.{motion, number_after, Rules}
use Rattle.lattice.specs.Coordinates.{cell_same}
use Rattle.lattice.proofs.Products.{image_identity}
use Rattle.lattice.proofs.Numbers.{in_turn}

-- ---- a matrix is known by its images
row_same : (r s : Cell) → ((x : Cell) → dot r x ≡ dot s x) → r ≡ s
row_same r s h =
    cell_same r s
    (let e = h (cell (pos 1) (pos 0) (pos 0)) in omega (arith, ints))
    (let e = h (cell (pos 0) (pos 1) (pos 0)) in omega (arith, ints))
    (let e = h (cell (pos 0) (pos 0) (pos 1)) in omega (arith, ints))

pub images_same : (g h : Matrix) → ((x : Cell) → image g x ≡ image h x) → g ≡ h
unfolding image
images_same g h e =
    let p = row_same g.to_a h.to_a (λ x. ap (λ (y : Cell). y.a) (e x)) in
    let q = row_same g.to_b h.to_b (λ x. ap (λ (y : Cell). y.b) (e x)) in
    let r = row_same g.to_c h.to_c (λ x. ap (λ (y : Cell). y.c) (e x)) in
    λ i. record { to_a = p i; to_b = q i; to_c = r i }

module _ {name : List ℕ} {ds : List Cell} {ms : List Matrix} {os : ℕ → Bool} (R : Rules name ds ms os) where
  -- ---- a motion and what undoes it
  pub motion_undone : (g : ℕ) → g < length ms → (h : ℕ) × (h < length ms) × ((x : Cell) → image (motion ms h) (image (motion ms g) x) ≡ x)
  motion_undone g l =
      let t = R.undone g l in
      (t.0, t.1, λ x. sym (in_turn R t.0 g 0 (sym t.2) t.1 l x) ∙ ap (λ (m : Matrix). image m x) R.motion_0 ∙ image_identity x)

  pub motion_injective : (g : ℕ) → g < length ms → (x y : Cell) → image (motion ms g) x ≡ image (motion ms g) y → x ≡ y
  motion_injective g l x y e = let t = motion_undone g l in sym (t.2 x) ∙ ap (image (motion ms t.0)) e ∙ t.2 y

  pub images_no_repeats : (g : ℕ) → g < length ms → (s : List Cell) → NoRepeats s → NoRepeats (map (image (motion ms g)) s)
  images_no_repeats g l s a = no_repeats_map (image (motion ms g)) s a (λ x y p q. motion_injective g l x y)

  -- ---- numbers
  pub number_same : (g h : ℕ) → g < length ms → h < length ms → ((x : Cell) → image (motion ms g) x ≡ image (motion ms h) x) → g ≡ h
  number_same g h k l e = no_repeats_place ms g h identity R.motions_differ k l (images_same (motion ms g) (motion ms h) e)

  pub after_cancel : (g h k : ℕ) → g < length ms → h < length ms → k < length ms → number_after ms g h ≡ number_after ms g k → h ≡ k
  after_cancel g h k p q r e =
      number_same h k q r (λ x. motion_injective g p (image (motion ms h) x) (image (motion ms k) x) (sym (in_turn R g h (number_after ms g h) refl p q x) ∙ in_turn R g k (number_after ms g h) e p r x))

  -- ---- directions
  pub direction_carried : (g : ℕ) → g < length ms → (d : Cell) → In d ds → In (image (motion ms g) d) ds
  direction_carried g l d h = R.directions_carried (motion ms g) d (in_get_or ms g identity l) h
