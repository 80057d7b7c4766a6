-- Members as calls tell them.
use Rattle.std.proofs.Common.{◌≡◌, ℕ, ◌+◌, ◌<◌, Bool, true, false, cond, ◌&&◌, ltb, ◌⊎◌, List, [], ◌∷◌, ◌++◌, map, length, get_or, take, filter, sym, refl, ap, ◌∙◌, subst, inl, inr, append-nil, arith}
use Rattle.std.specs.List.{AllByRecursion}
use Rattle.std.proofs.lemmas.List.Elements.{filter_more}
use Rattle.std.proofs.lemmas.List.{take_more}
use Rattle.std.proofs.lemmas.Int.{ints}
use Rattle.std.proofs.lemmas.Bool.{and_parts, and_from, ltb-true, lt-ltb}
use Rattle.ordered.specs.Members.{In}
use Rattle.ordered.specs.Lookups.{inserted, sorted}
use Rattle.ordered.specs.Orders.{Ascending}
use Rattle.ordered.proofs.Ascending.{ascending_kept}
use Rattle.ordered.proofs.Counting.{differ}
use Rattle.ordered.proofs.Members.{in_cast, in_map, from_map, in_kept, from_kept, from_append, in_get_or, all_in, all_from_in}
use Rattle.ordered.proofs.Orders.{number_order}
use Rattle.ordered.proofs.Sorted.{sorted_out, sorted_only, sorted_push}
use Rattle.lattice.specs.declared.cell.Cell.{Cell}
use Rattle.lattice.specs.Cells.{origin, cell_less, in_reach, Within}
use Rattle.lattice.specs.Matrices.{Matrix, image, identity, Small}
use Rattle.lattice.specs.Lattices.{motion, image_under, Rules}
use Rattle.lattice.specs.declared.motion_set.MotionSet.{MotionSet}
use Rattle.lattice.specs.Kinds.{set_motions, Closed}
use Rattle.lattice.specs.Coordinates.{cell_order, within_says}
use Rattle.lattice.proofs.Rising.{ascending_from_climbs}
use Rattle.shapes.specs.Classes.{same_cells, cells_less, moved, least_member, stabiliser_of}
use Rattle.shapes.specs.Members.{member_under, usable}
use Rattle.shapes.specs.Positions.{normal, NormalPosition}
use Rattle.shapes.proofs.Bounds.{image_within_45, image_under_is}
use Rattle.shapes.proofs.Classes.{cells_order, cells_equality}
use Rattle.shapes.proofs.Leasts.{best_itself, best_beaten}
use Rattle.shapes.proofs.Moved.{moved_0}

map_same_in : {X Y : Type 0} (f g : X → Y) (xs : List X) → ((x : X) → In x xs → f x ≡ g x) → map f xs ≡ map g xs
map_same_in f g [] h = refl
map_same_in f g (x ∷ xs) h = rw (h x (inl refl), map_same_in f g xs (λ y q. h y (inr q)))

origin_near : Within 45 origin
origin_near = (omega (arith, ints), omega (arith, ints), omega (arith, ints), omega (arith, ints), omega (arith, ints), omega (arith, ints))

module _ {name : List ℕ} {ds : List Cell} {ms : List Matrix} {os : ℕ → Bool} (R : Rules name ds ms os) where
  image_under_near : (g : ℕ) (x : Cell) → Within 45 (image_under ms g x)
  image_under_near g x = go (ltb g (length ms) && in_reach x) refl
    where
      go : (b : Bool) → (ltb g (length ms) && in_reach x) ≡ b → Within 45 (cond b (image (motion ms g) x) origin)
      go true e =
          let t = and_parts (ltb g (length ms)) (in_reach x) e in
          image_within_45 (motion ms g) x (all_in Small ms R.motions_small (motion ms g) (in_get_or ms g identity (ltb-true g (length ms) t.0))) (within_says 15 x t.1)
      go false e = origin_near

  pub images_near : (g : ℕ) (s : List Cell) → AllByRecursion (Within 45) (sorted cell_less (map (image_under ms g) s))
  images_near g s =
      all_from_in (Within 45) (sorted cell_less (map (image_under ms g) s))
      (λ z h. let t = from_map (image_under ms g) s z (sorted_out cell_less cell_order (map (image_under ms g) s) z h) in rw t.2 (image_under_near g t.0))

-- a motion of the lattice tells the image of a shape
pub member_is_moved : (ms : List Matrix) (g : ℕ) (s : List Cell) → g < length ms → AllByRecursion (Within 15) s → member_under ms g s ≡ moved ms g s
member_is_moved ms g s l a = ap normal (map_same_in (image_under ms g) (image (motion ms g)) s (λ x h. image_under_is ms g x l (all_in (Within 15) s a x h)))

-- ---- sets of motions
pub set_ascending : (set : MotionSet) → Ascending ltb (set_motions set)
set_ascending set = ascending_from_climbs (set_motions set) set.ascending

pub set_has_0 : (set : MotionSet) → In 0 (set_motions set)
set_has_0 set = in_cast (set_motions set) set.zero (in_get_or (set_motions set) 0 1 (omega (arith, set.some)))

-- a test that every item passes keeps all
kept_every : {X : Type 0} (p : X → Bool) (xs : List X) → ((x : X) → In x xs → p x ≡ true) → filter p xs ≡ xs
kept_every p [] h = refl
kept_every {X} p (x ∷ xs) h = rw (h x (inl refl)) (ap (λ (l : List X). x ∷ l) (kept_every p xs (λ y q. h y (inr q))))

pub closed_usable : (ms : List Matrix) (gs : List ℕ) → Closed ms gs → usable ms gs ≡ gs
closed_usable ms gs C = kept_every (λ g. ltb g (length ms)) gs (λ g h. lt-ltb g (length ms) (C.within g h))

-- what fails of each item so far and of the next fails of each of one item more
pub none_more : (P : ℕ → Type 0) (gs : List ℕ) (i : ℕ) → i < length gs → ((k : ℕ) → In k (take i gs) → P k → ⊥) → (P (get_or gs i 0) → ⊥) → (k : ℕ) → In k (take (i + 1) gs) → P k → ⊥
none_more P gs i h none here k q = go (from_append (take i gs) (get_or gs i 0 ∷ []) k (subst (In k) (take_more gs i 0 h) q))
  where
    go : In k (take i gs) ⊎ In k (get_or gs i 0 ∷ []) → P k → ⊥
    go (inl r) p = none k r p
    go (inr (inl e)) p = here (subst P e p)
    go (inr (inr r)) p = absurd r

-- ---- the least member
module _ (ms : List Matrix) (gs : List ℕ) (s : List Cell) where
  pub none_makes_less : ((k : ℕ) → In k gs → (ltb k (length ms) && cells_less (moved ms k s) s) ≡ true → ⊥) → same_cells (least_member ms (usable ms gs) s) s ≡ true
  none_makes_less h =
      (cells_equality (least_member ms (usable ms gs) s) s).1
      (best_itself cells_less cells_order s (map (λ g. moved ms g s) (usable ms gs))
      (λ y q l.
      let t = from_map (λ g. moved ms g s) (usable ms gs) y q in
      let u = from_kept (λ g. ltb g (length ms)) gs t.0 t.1 in
      h t.0 u.0 (and_from (ltb t.0 (length ms)) (cells_less (moved ms t.0 s) s) u.1 (ap (λ (z : List Cell). cells_less z s) (sym t.2) ∙ l))))

  pub one_makes_less : (k : ℕ) → In k gs → (ltb k (length ms) && cells_less (moved ms k s) s) ≡ true → same_cells (least_member ms (usable ms gs) s) s ≡ false
  one_makes_less k q e =
      let t = and_parts (ltb k (length ms)) (cells_less (moved ms k s) s) e in
      differ same_cells cells_equality (least_member ms (usable ms gs) s) s
      (best_beaten cells_less cells_order s (map (λ g. moved ms g s) (usable ms gs)) (moved ms k s) (in_map (λ g. moved ms g s) (usable ms gs) k (in_kept (λ g. ltb g (length ms)) gs k q t.0)) t.1)

-- ---- the stabiliser
-- motion k is the lattice's, and leaves s as it is
unfoldable pub stays : List Matrix → List Cell → ℕ → Bool
stays ms s k = ltb k (length ms) && same_cells (moved ms k s) s

kept_twice : {X : Type 0} (p q : X → Bool) (xs : List X) → filter q (filter p xs) ≡ filter (λ x. p x && q x) xs
kept_twice p q [] = refl
kept_twice {X} p q (x ∷ xs) = go (p x) (q x) refl (kept_twice p q xs)
  where
    go : (a b : Bool) → q x ≡ b → filter q (filter p xs) ≡ filter (λ y. p y && q y) xs → filter q (cond a (x ∷ filter p xs) (filter p xs)) ≡ cond (a && b) (x ∷ filter (λ y. p y && q y) xs) (filter (λ y. p y && q y) xs)
    go true true e r = rw e (ap (λ (l : List X). x ∷ l) r)
    go true false e r = rw e r
    go false b e r = r

-- 0 and the numbers so far that pass a test, one number more
module _ (p : ℕ → Bool) (gs : List ℕ) (i : ℕ) (h : i < length gs) where
  pub sorted_kept_yes : p (get_or gs i 0) ≡ true → sorted ltb (0 ∷ filter p (take (i + 1) gs)) ≡ inserted ltb (get_or gs i 0) (sorted ltb (0 ∷ filter p (take i gs)))
  sorted_kept_yes e =
      let more : filter p (take (i + 1) gs) ≡ filter p (take i gs) ++ get_or gs i 0 ∷ [] = filter_more p gs i 0 h ∙ rw e in
      ap (λ (l : List ℕ). sorted ltb (0 ∷ l)) more ∙ sorted_push ltb number_order (0 ∷ filter p (take i gs)) (get_or gs i 0)

  pub sorted_kept_no : p (get_or gs i 0) ≡ false → sorted ltb (0 ∷ filter p (take (i + 1) gs)) ≡ sorted ltb (0 ∷ filter p (take i gs))
  sorted_kept_no e =
      let same : filter p (take (i + 1) gs) ≡ filter p (take i gs) = filter_more p gs i 0 h ∙ rw e (append-nil (filter p (take i gs))) in
      ap (λ (l : List ℕ). sorted ltb (0 ∷ l)) same

module _ {name : List ℕ} {ds : List Cell} {ms : List Matrix} {os : ℕ → Bool} (R : Rules name ds ms os) where
  stays_0 : (s : List Cell) → NormalPosition s → stays ms s 0 ≡ true
  unfolding stays
  stays_0 s p = and_from (ltb 0 (length ms)) (same_cells (moved ms 0 s) s) (lt-ltb 0 (length ms) R.some_motions) ((cells_equality (moved ms 0 s) s).1 (moved_0 R s p))

  -- 0 is among them already
  pub stabiliser_is : (set : MotionSet) (s : List Cell) → NormalPosition s → sorted ltb (0 ∷ filter (stays ms s) (set_motions set)) ≡ stabiliser_of ms (usable ms (set_motions set)) s
  unfolding stays
  stabiliser_is set s p =
      let gs = set_motions set in
      let ks = filter (stays ms s) gs in
      let zeroth : In 0 ks = in_kept (stays ms s) gs 0 (set_has_0 set) (stays_0 s p) in
      sorted_only ltb number_order (0 ∷ ks) ks (ascending_kept ltb (stays ms s) gs (set_ascending set)) (into ks zeroth) (λ z q. inr q)
      ∙ sym (kept_twice (λ k. ltb k (length ms)) (λ k. same_cells (moved ms k s) s) gs)
    where
      into : (ks : List ℕ) → In 0 ks → (z : ℕ) → In z (0 ∷ ks) → In z ks
      into ks h z (inl e) = in_cast ks (sym e) h
      into ks h z (inr q) = q

  -- motion 0 makes nothing less
  pub still_not_less : (s : List Cell) → NormalPosition s → (ltb 0 (length ms) && cells_less (moved ms 0 s) s) ≡ false
  still_not_less s p = go (ltb 0 (length ms)) (cells_less (moved ms 0 s) s) refl
    where
      go : (a b : Bool) → cells_less (moved ms 0 s) s ≡ b → (a && b) ≡ false
      go true true e = absurd (cells_order.irreflexive s (ap (λ (z : List Cell). cells_less z s) (sym (moved_0 R s p)) ∙ e))
      go true false e = refl
      go false b e = refl
