-- Ascending lists of numbers, by places and by members.
use Rattle.std.proofs.Common.{◌≡◌, ℕ, zero, suc, ◌+◌, ◌<◌, ◌≤◌, Bool, true, false, cond, eqb, ltb, List, [], ◌∷◌, length, get_or, refl, subst, inl, inr, suc-add, arith}
use Rattle.std.specs.List.Sorted.{IsStrictlyIncreasing}
use Rattle.std.specs.List.{range_with_len}
use Rattle.std.proofs.lemmas.List.FromFn.{length-range_with_len}
use Rattle.std.proofs.lemmas.Bool.{ltb-true, lt-ltb}
use Rattle.ordered.specs.Members.{In}
use Rattle.ordered.specs.Orders.{Ascending}
use Rattle.ordered.specs.Lookups.{inserted}
use Rattle.ordered.proofs.Ascending.{ascending_no_repeats, inserted_out, inserted_ascending}
use Rattle.ordered.proofs.Orders.{number_order}
use Rattle.ordered.proofs.Counted.{in_counting}
use Rattle.ordered.proofs.Counting.{fits, number_equality}
use Rattle.ordered.proofs.Members.{in_get_or, get_or_from_in}

climbs_tail : (x : ℕ) (xs : List ℕ) → IsStrictlyIncreasing (x ∷ xs) → IsStrictlyIncreasing xs
climbs_tail x xs c k h = rw (suc-add k 1) at (c (suc k) (omega arith))

pub ascending_from_climbs : (xs : List ℕ) → IsStrictlyIncreasing xs → Ascending ltb xs
ascending_from_climbs [] c = tt
ascending_from_climbs (x ∷ xs) c = (above xs c (ascending_from_climbs xs (climbs_tail x xs c)), ascending_from_climbs xs (climbs_tail x xs c))
  where
    above : (ys : List ℕ) → IsStrictlyIncreasing (x ∷ ys) → Ascending ltb ys → (y : ℕ) → In y ys → ltb x y ≡ true
    above [] d a y h = absurd h
    above (z ∷ zs) d a y (inl e) = rw e (lt-ltb x z (d 0 (omega arith)))
    above (z ∷ zs) d a y (inr h) = lt-ltb x y (omega (arith, d 0 (omega arith), ltb-true z y (a.0 y h)))

pub climbs_from_ascending : (xs : List ℕ) → Ascending ltb xs → IsStrictlyIncreasing xs
climbs_from_ascending [] a k h = absurd (omega arith)
climbs_from_ascending (x ∷ xs) a zero h = ltb-true x (get_or xs 0 0) (a.0 (get_or xs 0 0) (in_get_or xs 0 0 (omega arith)))
climbs_from_ascending (x ∷ xs) a (suc k) h = rw (suc-add k 1) (climbs_from_ascending xs a.1 k (omega arith))

-- ---- the numbers of a set of motions
abbrev pub Small : List ℕ → Type 0
Small xs = (k : ℕ) → k < length xs → get_or xs k 0 < 48

pub small_in : (xs : List ℕ) → Small xs → (y : ℕ) → In y xs → y < 48
small_in xs small y h = let t = get_or_from_in xs y h in subst (λ (z : ℕ). z < 48) (t.2 0) (small t.0 t.1)

-- a set that lacks a number below 48 has room for it: the pigeonhole
pub room_for : (m : ℕ) (xs : List ℕ) → m < 48 → IsStrictlyIncreasing xs → Small xs → (In m xs → ⊥) → length xs < 48
room_for m xs l c small out =
    let here : (y : ℕ) → In y (m ∷ xs) → In y (range_with_len 0 48) = λ y h. in_counting 0 48 y (omega arith) (below y h) in
    let most : length (m ∷ xs) ≤ length (range_with_len 0 48) = fits eqb number_equality (m ∷ xs) (range_with_len 0 48) (out, ascending_no_repeats ltb number_order xs (ascending_from_climbs xs c)) here in
    omega (arith, most, length-range_with_len 0 48)
  where
    below : (y : ℕ) → In y (m ∷ xs) → y < 0 + 48
    below y (inl e) = omega arith
    below y (inr h) = omega (arith, small_in xs small y h)

-- ---- one motion more
module _ (m : ℕ) (xs : List ℕ) where
  pub added_climbs : IsStrictlyIncreasing xs → IsStrictlyIncreasing (inserted ltb m xs)
  added_climbs c = climbs_from_ascending (inserted ltb m xs) (inserted_ascending ltb number_order m xs (ascending_from_climbs xs c))

  pub added_small : m < 48 → Small xs → Small (inserted ltb m xs)
  added_small l small j h = below (inserted_out ltb number_order m xs (get_or (inserted ltb m xs) j 0) (in_get_or (inserted ltb m xs) j 0 h))
    where
      below : In (get_or (inserted ltb m xs) j 0) (m ∷ xs) → get_or (inserted ltb m xs) j 0 < 48
      below (inl q) = rw q l
      below (inr q) = small_in xs small (get_or (inserted ltb m xs) j 0) q

-- 0 stays the first
pub added_zero : (m : ℕ) (xs : List ℕ) → 1 ≤ length xs → get_or xs 0 1 ≡ 0 → (1 ≤ length (inserted ltb m xs)) × (get_or (inserted ltb m xs) 0 1 ≡ 0)
added_zero m [] some z = absurd (omega arith)
added_zero m (x ∷ xs) some z = go (ltb x m) (ltb m x) refl refl
  where
    go : (s t : Bool) → ltb x m ≡ s → ltb m x ≡ t → (1 ≤ length (cond s (x ∷ inserted ltb m xs) (cond t (m ∷ x ∷ xs) (x ∷ xs)))) × (get_or (cond s (x ∷ inserted ltb m xs) (cond t (m ∷ x ∷ xs) (x ∷ xs))) 0 1 ≡ 0)
    go true t p q = (omega arith, z)
    go false true p q = absurd (omega (arith, ltb-true m x q))
    go false false p q = (omega arith, z)
