-- Members of lists of cells: a motion after another, the position, the length, and connectedness.
use Rattle.std.proofs.Common.{◌≡◌, ℕ, ◌<◌, Bool, List, [], ◌∷◌, map, length, sym, refl, ap, ◌∙◌, subst, inl}
use mathlib.Core.List.{map-map}
use lib.ListN.{length-map}
use Rattle.ordered.specs.Members.{In}
use Rattle.ordered.specs.Lookups.{sorted}
use Rattle.ordered.proofs.Members.{in_cast, in_map, from_map}
use Rattle.ordered.proofs.Sorted.{sorted_in, sorted_out}
use Rattle.lattice.specs.declared.cell.Cell.{Cell}
use Rattle.lattice.specs.Cells.{origin, opposite, cell_less, plus, minus}
use Rattle.lattice.specs.Matrices.{Matrix, image, identity}
use Rattle.lattice.specs.Lattices.{motion, number_after, Rules}
use Rattle.lattice.specs.Coordinates.{cell_order}
use Rattle.lattice.proofs.Products.{image_identity}
use Rattle.lattice.proofs.Numbers.{in_turn}
use Rattle.shapes.specs.Connected.{Reached, Connected}
use Rattle.shapes.specs.Positions.{neighbours, shifted, normal, NormalPosition}
use Rattle.shapes.specs.Classes.{moved}
use Rattle.shapes.proofs.Connected.{reached_carried, connected_from}
use Rattle.shapes.proofs.Sums.{minus_self, minus_plus, plus_opposite, image_plus, image_minus}
use Rattle.shapes.proofs.Positions.{map_same, map_itself, normal_minus, normal_same, normal_itself, normal_length, normal_position, origin_in, position_no_repeats}
use Rattle.shapes.proofs.Motions.{images_no_repeats, direction_carried}

-- ---- any matrix
-- the images of lists with the same cells have the same cells
images_in : (m : Matrix) (s t : List Cell) → ((z : Cell) → In z s → In z t) → (z : Cell) → In z (map (image m) s) → In z (map (image m) t)
images_in m s t h z q = let u = from_map (image m) s z q in in_cast (map (image m) t) (sym u.2) (in_map (image m) t u.0 (h u.0 u.1))

-- where a list stands before a motion does not count after it
normal_image_shifted : (m : Matrix) (s : List Cell) → normal (map (image m) (shifted s)) ≡ normal (map (image m) s)
normal_image_shifted m [] = refl
normal_image_shifted m (x ∷ xs) =
    ap normal (map-map (image m) (λ y. minus y x) (x ∷ xs) ∙ map_same (λ y. image m (minus y x)) (λ y. minus (image m y) (image m x)) (x ∷ xs) (λ y. image_minus m y x) ∙ sym (map-map (λ y. minus y (image m x)) (image m) (x ∷ xs)))
    ∙ normal_minus (image m x) (map (image m) (x ∷ xs))

pub normal_image : (m : Matrix) (s : List Cell) → normal (map (image m) (normal s)) ≡ normal (map (image m) s)
normal_image m s =
    let t = sorted cell_less s in
    normal_image_shifted m t ∙ normal_same (map (image m) t) (map (image m) s) (images_in m t s (sorted_out cell_less cell_order s)) (images_in m s t (sorted_in cell_less cell_order s))

pub image_position : (m : Matrix) (s : List Cell) → NormalPosition s → NormalPosition (normal (map (image m) s))
image_position m s p = normal_position (map (image m) s) (image m origin) (in_map (image m) s origin (origin_in s p))

-- ---- the motions of a lattice
module _ {name : List ℕ} {ds : List Cell} {ms : List Matrix} {os : ℕ → Bool} (R : Rules name ds ms os) where
  pub moved_0 : (s : List Cell) → NormalPosition s → moved ms 0 s ≡ s
  moved_0 s p = ap (λ (m : Matrix). normal (map (image m) s)) R.motion_0 ∙ ap normal (map_itself (image identity) s image_identity) ∙ normal_itself s p

  pub moved_after : (g h : ℕ) → g < length ms → h < length ms → (s : List Cell) → moved ms (number_after ms g h) s ≡ moved ms g (moved ms h s)
  moved_after g h k l s =
      ap normal (map_same (image (motion ms (number_after ms g h))) (λ x. image (motion ms g) (image (motion ms h) x)) s (in_turn R g h (number_after ms g h) refl k l) ∙ sym (map-map (image (motion ms g)) (image (motion ms h)) s))
      ∙ sym (normal_image (motion ms g) (map (image (motion ms h)) s))

  pub moved_length : (g : ℕ) → g < length ms → (s : List Cell) → NormalPosition s → length (moved ms g s) ≡ length s
  moved_length g l s p = normal_length (map (image (motion ms g)) s) (images_no_repeats R g l s (position_no_repeats s p)) ∙ length-map s (image (motion ms g))

  -- ---- connected
  pub neighbours_both : (x y : Cell) → In y (neighbours ds x) → In x (neighbours ds y)
  neighbours_both x y h =
      let t = from_map (plus x) ds y h in
      let e : plus y (opposite t.0) ≡ x = ap (λ (z : Cell). plus z (opposite t.0)) t.2 ∙ plus_opposite x t.0 in
      in_cast (neighbours ds y) e (in_map (plus y) ds (opposite t.0) (R.directions_back t.0 t.1))

  -- the image under a motion, with any cell taken away
  neighbours_carried : (g : ℕ) → g < length ms → (o x y : Cell) → In y (neighbours ds x) → In (minus (image (motion ms g) y) o) (neighbours ds (minus (image (motion ms g) x) o))
  neighbours_carried g l o x y h =
      let m = motion ms g in
      let t = from_map (plus x) ds y h in
      let e : minus (image m y) o ≡ plus (minus (image m x) o) (image m t.0) = ap (λ (z : Cell). minus (image m z) o) t.2 ∙ ap (λ (z : Cell). minus z o) (image_plus m x t.0) ∙ minus_plus (image m x) (image m t.0) o in
      in_cast (neighbours ds (minus (image m x) o)) (sym e) (in_map (plus (minus (image m x) o)) ds (image m t.0) (direction_carried R g l t.0 t.1))

  shifted_connected : (g : ℕ) → g < length ms → (start : Cell) (s t : List Cell) → Connected (neighbours ds) start s → ((z : Cell) → In z t → In z (map (image (motion ms g)) s)) → ((z : Cell) → In z (map (image (motion ms g)) s) → In z t) → Connected (neighbours ds) origin (shifted t)
  shifted_connected g l start s [] con out into y h = absurd h
  shifted_connected g l start s (o ∷ t) con out into y h =
      let m = motion ms g in
      let near = neighbours ds in
      let f : Cell → Cell = λ x. minus (image m x) o in
      let first = from_map (image m) s o (out o (inl refl)) in
      let u = from_map (λ z. minus z o) (o ∷ t) y h in
      let v = from_map (image m) s u.0 (out u.0 u.1) in
      let way : Reached near first.0 s v.0 = connected_from near start first.0 s neighbours_both first.1 con v.0 v.1 in
      let carried = reached_carried near f s (shifted (o ∷ t)) (λ x q. in_map (λ z. minus z o) (o ∷ t) (image m x) (into (image m x) (in_map (image m) s x q))) (neighbours_carried g l o) way in
      let begin : f first.0 ≡ origin = ap (λ (z : Cell). minus z o) (sym first.2) ∙ minus_self o in
      let end : f v.0 ≡ y = ap (λ (z : Cell). minus z o) (sym v.2) ∙ sym u.2 in
      subst (λ (z : Cell). Reached near z (shifted (o ∷ t)) y) begin (subst (Reached near (f first.0) (shifted (o ∷ t))) end carried)

  pub moved_connected : (g : ℕ) → g < length ms → (start : Cell) (s : List Cell) → Connected (neighbours ds) start s → Connected (neighbours ds) origin (moved ms g s)
  moved_connected g l start s con =
      let t = map (image (motion ms g)) s in
      shifted_connected g l start s (sorted cell_less t) con (sorted_out cell_less cell_order t) (sorted_in cell_less cell_order t)
