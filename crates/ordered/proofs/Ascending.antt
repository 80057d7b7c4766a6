-- Ascending lists: what keeps one ascending, when two are one, and what a lookup in one says.
use Rattle.std.proofs.Common.{◌≡◌, ℕ, suc, ◌+◌, ◌<◌, Bool, true, false, cond, List, [], ◌∷◌, map, length, get_or, filter, sym, refl, ap, ◌∙◌, subst, inl, inr, arith, Ok, Err, Result, is_ok, Decides}
use Rattle.std.proofs.lemmas.Bool.{true≢false}
use Rattle.ordered.specs.Members.{In, NoRepeats}
use Rattle.ordered.specs.Orders.{StrictTotal, Ascending}
use Rattle.ordered.specs.Lookups.{further, lookup, inserted}
use Rattle.ordered.proofs.Members.{in_cast, in_get_or, from_map, from_kept}
use Rattle.ordered.proofs.Orders.{Three, three}
use Rattle.ordered.proofs.Lookups.{further_found, inserted_found, length_inserted_absent}

pub ascending_map : {X Y : Type 0} (less : X → X → Bool) (below : Y → Y → Bool) (f : X → Y) → ((x y : X) → less x y ≡ true → below (f x) (f y) ≡ true) → (xs : List X) → Ascending less xs → Ascending below (map f xs)
ascending_map less below f mono [] a = tt
ascending_map {X} {Y} less below f mono (x ∷ xs) a = (
  λ y h. let t = from_map f xs y h in subst (λ (w : Y). below (f x) w ≡ true) (sym t.2) (mono x t.0 (a.0 t.0 t.1)),
  ascending_map less below f mono xs a.1,
)

pub ascending_kept : {X : Type 0} (less : X → X → Bool) (p : X → Bool) (xs : List X) → Ascending less xs → Ascending less (filter p xs)
ascending_kept less p [] a = tt
ascending_kept less p (x ∷ xs) a = go (p x) (ascending_kept less p xs a.1)
  where
    go : (b : Bool) → Ascending less (filter p xs) → Ascending less (cond b (x ∷ filter p xs) (filter p xs))
    go true r = (λ y q. a.0 y (from_kept p xs y q).0, r)
    go false r = r

module _ {X : Type 0} (less : X → X → Bool) (O : StrictTotal less) where
  pub ascending_no_repeats : (xs : List X) → Ascending less xs → NoRepeats xs
  ascending_no_repeats [] a = tt
  ascending_no_repeats (x ∷ xs) a = (λ h. O.irreflexive x (a.0 x h), ascending_no_repeats xs a.1)

  -- two ascending lists with the same items are one
  pub ascending_same : (xs ys : List X) → Ascending less xs → Ascending less ys → ((z : X) → In z xs → In z ys) → ((z : X) → In z ys → In z xs) → xs ≡ ys
  ascending_same [] [] a b f g = refl
  ascending_same [] (y ∷ ys) a b f g = absurd (g y (inl refl))
  ascending_same (x ∷ xs) [] a b f g = absurd (f x (inl refl))
  ascending_same (x ∷ xs) (y ∷ ys) a b f g =
      let e : x ≡ y = heads (f x (inl refl)) (g y (inl refl)) in
      let t : xs ≡ ys = ascending_same xs ys a.1 b.1 (λ z q. tail_f e z q (f z (inr q))) (λ z q. tail_g e z q (g z (inr q))) in
      cc
    where
      heads : In x (y ∷ ys) → In y (x ∷ xs) → x ≡ y
      heads (inl e) k = e
      heads (inr h) (inl e) = sym e
      heads (inr h) (inr k) = absurd (O.irreflexive x (O.transitive x y x (a.0 y k) (b.0 x h)))

      tail_f : x ≡ y → (z : X) → In z xs → In z (y ∷ ys) → In z ys
      tail_f e z q (inl k) = absurd (O.irreflexive z (subst (λ (w : X). less w z ≡ true) (e ∙ sym k) (a.0 z q)))
      tail_f e z q (inr k) = k

      tail_g : x ≡ y → (z : X) → In z ys → In z (x ∷ xs) → In z xs
      tail_g e z q (inl k) = absurd (O.irreflexive z (subst (λ (w : X). less w z ≡ true) (sym e ∙ sym k) (b.0 z q)))
      tail_g e z q (inr k) = k

  -- ---- insertion
  pub inserted_out : (x : X) (xs : List X) (z : X) → In z (inserted less x xs) → In z (x ∷ xs)
  inserted_out x [] z h = h
  inserted_out x (y ∷ ys) z h = go (less y x) (less x y) h (inserted_out x ys z)
    where
      turn : In z (x ∷ ys) → In z (x ∷ y ∷ ys)
      turn (inl e) = inl e
      turn (inr q) = inr (inr q)

      go : (s t : Bool) → In z (cond s (y ∷ inserted less x ys) (cond t (x ∷ y ∷ ys) (y ∷ ys))) → (In z (inserted less x ys) → In z (x ∷ ys)) → In z (x ∷ y ∷ ys)
      go true t (inl e) r = inr (inl e)
      go true t (inr k) r = turn (r k)
      go false true k r = k
      go false false k r = inr k

  pub inserted_in : (x : X) (xs : List X) (z : X) → In z (x ∷ xs) → In z (inserted less x xs)
  inserted_in x [] z h = h
  inserted_in x (y ∷ ys) z h = go (three less O x y) h (inserted_in x ys z)
    where
      go : Three less x y → In z (x ∷ y ∷ ys) → (In z (x ∷ ys) → In z (inserted less x ys)) → In z (inserted less x (y ∷ ys))
      go (inl c) k r = rw (c.1, c.0) k
      go (inr (inl c)) (inl e) r = rw c.1 (inr (r (inl e)))
      go (inr (inl c)) (inr (inl e)) r = rw c.1 (inl e)
      go (inr (inl c)) (inr (inr k)) r = rw c.1 (inr (r (inr k)))
      go (inr (inr c)) (inl e) r = rw (c.1, c.0) (inl (e ∙ c.2))
      go (inr (inr c)) (inr k) r = rw (c.1, c.0) k

  pub inserted_ascending : (x : X) (xs : List X) → Ascending less xs → Ascending less (inserted less x xs)
  inserted_ascending x [] a = (λ y h. absurd h, tt)
  inserted_ascending x (y ∷ ys) a = go (three less O x y) (inserted_ascending x ys a.1)
    where
      before : less x y ≡ true → (z : X) → In z (y ∷ ys) → less x z ≡ true
      before h z (inl e) = rw e h
      before h z (inr q) = O.transitive x y z h (a.0 z q)

      behind : less y x ≡ true → (z : X) → In z (x ∷ ys) → less y z ≡ true
      behind h z (inl e) = rw e h
      behind h z (inr q) = a.0 z q

      go : Three less x y → Ascending less (inserted less x ys) → Ascending less (inserted less x (y ∷ ys))
      go (inl c) r = rw (c.1, c.0) (before c.0, a)
      go (inr (inl c)) r = rw c.1 (λ z q. behind c.1 z (inserted_out x ys z q), r)
      go (inr (inr c)) r = rw (c.1, c.0) a

  -- ---- lookup
  pub found_get_or : (x : X) (xs : List X) (k : ℕ) → lookup less x xs ≡ Ok k → (k < length xs) × ((d : X) → get_or xs k d ≡ x)
  found_get_or x [] k h = let z : true ≡ false = cc in absurd (true≢false z)
  found_get_or x (y ∷ ys) k h = go (three less O x y) (found_get_or x ys)
    where
      Here : ℕ → Type 0
      Here n = (n < suc (length ys)) × ((d : X) → get_or (y ∷ ys) n d ≡ x)

      go : Three less x y → ((j : ℕ) → lookup less x ys ≡ Ok j → (j < length ys) × ((d : X) → get_or ys j d ≡ x)) → Here k
      go (inl c) r = let e : Err 0 ≡ Ok k = rw (c.1, c.0) at h in let z : true ≡ false = cc in absurd (true≢false z)
      go (inr (inl c)) r = let f = further_found (lookup less x ys) k (rw c.1 at h) in let t = r f.0 f.1 in subst Here (sym f.2) (omega (arith, t.0), t.1)
      go (inr (inr c)) r = let e : Ok 0 ≡ Ok k = rw (c.1, c.0) at h in let z : 0 ≡ k = cc in subst Here z (omega arith, λ d. sym c.2)

  pub found_in : (x : X) (xs : List X) (k : ℕ) → lookup less x xs ≡ Ok k → In x xs
  found_in x xs k h = let t = found_get_or x xs k h in in_cast xs (t.1 x) (in_get_or xs k x t.0)

  pub in_found : (x : X) (xs : List X) → Ascending less xs → In x xs → (k : ℕ) × (lookup less x xs ≡ Ok k)
  in_found x [] a h = absurd h
  in_found x (y ∷ ys) a (inl e) = go (three less O x y)
    where
      go : Three less x y → (k : ℕ) × (lookup less x (y ∷ ys) ≡ Ok k)
      go (inl c) = absurd (O.irreflexive y (subst (λ (w : X). less w y ≡ true) e c.0))
      go (inr (inl c)) = absurd (O.irreflexive y (subst (λ (w : X). less y w ≡ true) e c.1))
      go (inr (inr c)) = (0, rw (c.1, c.0))
  in_found x (y ∷ ys) a (inr h) = let t = in_found x ys a.1 h in (suc t.0, rw (a.0 x h) (ap further t.1))

  -- a lookup tells whether an ascending list has an item
  pub lookup_decides : (x : X) (xs : List X) → Ascending less xs → Decides (is_ok (lookup less x xs)) (In x xs)
  lookup_decides x xs a = (to (lookup less x xs) refl, λ h. ap is_ok (in_found x xs a h).1)
    where
      to : (r : Result ℕ ℕ) → lookup less x xs ≡ r → is_ok (lookup less x xs) ≡ true → In x xs
      to (Ok k) e h = found_in x xs k e
      to (Err k) e h = absurd (true≢false (sym h ∙ ap is_ok e))

  pub absent_out : (x : X) (xs : List X) (k : ℕ) → Ascending less xs → lookup less x xs ≡ Err k → In x xs → ⊥
  absent_out x xs k a h q = let t = in_found x xs a q in let e = t.1 in let z : true ≡ false = cc in true≢false z

  pub inserted_present : (x : X) (xs : List X) → Ascending less xs → In x xs → inserted less x xs ≡ xs
  inserted_present x xs a h = let t = in_found x xs a h in inserted_found less x xs t.0 t.1

  pub length_inserted : (x : X) (xs : List X) → (In x xs → ⊥) → length (inserted less x xs) ≡ length xs + 1
  length_inserted x xs n = go (lookup less x xs) refl
    where
      go : (r : Result ℕ ℕ) → lookup less x xs ≡ r → length (inserted less x xs) ≡ length xs + 1
      go (Ok k) e = absurd (n (found_in x xs k e))
      go (Err k) e = length_inserted_absent less x xs k e
