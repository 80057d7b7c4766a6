-- The orientations of a shape, one motion more, and how many they are.
use Rattle.std.proofs.Common.{◌≡◌, ℕ, ◌+◌, ◌<◌, ◌≤◌, Bool, true, false, cond, ltb, List, [], ◌∷◌, ◌++◌, map, length, get_or, take, sym, ap, ◌∙◌, append-nil, arith, length-take}
use lib.ListN.{length-map}
use Rattle.std.proofs.lemmas.List.Elements.{filter_more}
use Rattle.std.proofs.lemmas.List.{map_push}
use Rattle.std.proofs.lemmas.Bool.{lt-ltb, le-ltb}
use Rattle.ordered.specs.Members.{In}
use Rattle.ordered.proofs.Kept.{length_kept_le}
use Rattle.ordered.proofs.Members.{in_map, in_kept, get_or_from_in}
use Rattle.ordered.proofs.Sorted.{sorted_in}
use Rattle.lattice.specs.declared.cell.Cell.{Cell}
use Rattle.lattice.specs.declared.motion_set.MotionSet.{MotionSet}
use Rattle.lattice.specs.Kinds.{set_motions}
use Rattle.lattice.specs.Lattices.{Rules}
use Rattle.lattice.specs.Matrices.{Matrix}
use Rattle.shapes.specs.declared.orientation.Orientation.{Orientation}
use Rattle.shapes.specs.Classes.{same_cells, cells_less, moved, orbit_of, orbit_size_of}
use Rattle.shapes.specs.Floods.{some_pass}
use Rattle.shapes.specs.Members.{placement_cells, usable, first_motions, orientations, oriented}
use Rattle.shapes.proofs.Classes.{cells_order, cells_equality}
use Rattle.shapes.proofs.Members.{set_has_0}
use Rattle.shapes.proofs.Firsts.{some_pass_map, firsts_push, firsts_few, firsts_count}

-- an item behind two lists that correspond, or none
both_grow : {X Y Z : Type 0} (f : X → Z) (h : Y → Z) (xs : List X) (ys : List Y) (x : X) (y : Y) (b : Bool) → map f xs ≡ map h ys → f x ≡ h y → map f (cond b xs (xs ++ x ∷ [])) ≡ map h (ys ++ cond b [] (y ∷ []))
both_grow f h xs ys x y true e q = e ∙ ap (map h) (sym (append-nil ys))
both_grow {X} {Y} {Z} f h xs ys x y false e q = map_push f xs x ∙ ap (λ (l : List Z). l ++ f x ∷ []) e ∙ ap (λ (z : Z). map h ys ++ z ∷ []) q ∙ sym (map_push h ys y)

module _ (ms : List Matrix) (s : List Cell) where
  -- a motion with its member
  abbrev with_member : ℕ → ℕ × List Cell
  with_member g = (g, moved ms g s)

  -- the motions are as many as the different members
  pub first_motions_count : (gs : List ℕ) → length (first_motions ms gs s) ≡ orbit_size_of ms gs s
  first_motions_count gs = firsts_count same_cells cells_equality (λ g. moved ms g s) cells_less cells_order gs

  -- whether the cells of a member are among those of the orientations so far
  seen : (xs : List Orientation) (gs : List ℕ) (cells : List Cell) (g : ℕ) → map oriented xs ≡ map with_member gs → cells ≡ moved ms g s → some_pass (λ o. same_cells (placement_cells o.placement) cells) xs ≡ some_pass (λ k. same_cells (moved ms k s) (moved ms g s)) gs
  seen xs gs cells g e q =
      let p : ℕ × List Cell → Bool = λ t. same_cells t.1 cells in
      sym (some_pass_map p oriented xs) ∙ ap (some_pass p) e ∙ some_pass_map p with_member gs ∙ ap (λ (z : List Cell). some_pass (λ k. same_cells (moved ms k s) z) gs) q

  -- ---- the orientations under the first i of the numbers ys, and one number more
  module _ (ys : List ℕ) (i : ℕ) (h : i < length ys) (xs : List Orientation) (inv : map oriented xs ≡ orientations ms (usable ms (take i ys)) s) where
    pub few_orientations : length xs ≤ i
    few_orientations =
        let us = usable ms (take i ys) in
        omega (arith, length-map xs oriented, ap length inv, length-map (first_motions ms us s) with_member, firsts_few same_cells cells_equality (λ g. moved ms g s) us, length_kept_le (λ g. ltb g (length ms)) (take i ys), length-take i ys)

    pub orientation_skipped : length ms ≤ get_or ys i 0 → map oriented xs ≡ orientations ms (usable ms (take (i + 1) ys)) s
    orientation_skipped l =
        let no : ltb (get_or ys i 0) (length ms) ≡ false = le-ltb (get_or ys i 0) (length ms) l in
        let same : usable ms (take (i + 1) ys) ≡ usable ms (take i ys) = filter_more (λ g. ltb g (length ms)) ys i 0 h ∙ rw no (append-nil (usable ms (take i ys))) in
        inv ∙ ap (λ (us : List ℕ). orientations ms us s) (sym same)

    pub orientation_added : (o : Orientation) → get_or ys i 0 < length ms → o.motion ≡ get_or ys i 0 → placement_cells o.placement ≡ moved ms (get_or ys i 0) s → map oriented (cond (some_pass (λ k. same_cells (placement_cells k.placement) (placement_cells o.placement)) xs) xs (xs ++ o ∷ [])) ≡ orientations ms (usable ms (take (i + 1) ys)) s
    orientation_added o l m q =
        let g = get_or ys i 0 in
        let us = usable ms (take i ys) in
        let old = first_motions ms us s in
        let b = some_pass (λ k. same_cells (moved ms k s) (moved ms g s)) old in
        let yes : ltb g (length ms) ≡ true = lt-ltb g (length ms) l in
        let more : usable ms (take (i + 1) ys) ≡ us ++ g ∷ [] = filter_more (λ k. ltb k (length ms)) ys i 0 h ∙ rw yes in
        let told : oriented o ≡ with_member g = ap (λ (k : ℕ). (k, placement_cells o.placement)) m ∙ ap (λ (z : List Cell). (g, z)) q in
        ap (λ (t : Bool). map oriented (cond t xs (xs ++ o ∷ []))) (seen xs old (placement_cells o.placement) g inv q)
        ∙ both_grow oriented with_member xs old o g b inv told
        ∙ ap (map with_member) (sym (firsts_push same_cells cells_equality (λ k. moved ms k s) us g))
        ∙ ap (λ (vs : List ℕ). orientations ms vs s) (sym more)

-- the shape itself is a member, so there is one
pub orbit_some : {name : List ℕ} {ds : List Cell} {ms : List Matrix} {os : ℕ → Bool} → Rules name ds ms os → (set : MotionSet) (s : List Cell) → 1 ≤ orbit_size_of ms (usable ms (set_motions set)) s
orbit_some {ms = ms} R set s =
    let gs = usable ms (set_motions set) in
    let there : In 0 gs = in_kept (λ g. ltb g (length ms)) (set_motions set) 0 (set_has_0 set) (lt-ltb 0 (length ms) R.some_motions) in
    let one = get_or_from_in (orbit_of ms gs s) (moved ms 0 s) (sorted_in cells_less cells_order (map (λ g. moved ms g s) gs) (moved ms 0 s) (in_map (λ g. moved ms g s) gs 0 there)) in
    omega (arith, one.1)
