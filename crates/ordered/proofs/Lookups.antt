-- What a lookup in any list says of the list, and what an insertion makes of it.
--     shifted n r      the answer r, n places further on
use Rattle.std.proofs.Common.{◌≡◌, ℕ, suc, ◌+◌, ◌≤◌, Bool, true, false, cond, List, [], ◌∷◌, ◌++◌, length, take, drop, Less, Equal, Greater, refl, ap, ◌∙◌, arith, Ok, Err, Result}
use Rattle.std.proofs.lemmas.List.Edits as edits
use Rattle.ordered.specs.Orders.{rank}
use Rattle.ordered.specs.Lookups.{further, lookup, inserted}
use Rattle.ordered.proofs.Orders.{rank_less, rank_equal, rank_greater}

abbrev pub shifted : ℕ → Result ℕ ℕ → Result ℕ ℕ
shifted n (Ok k) = Ok (n + k)
shifted n (Err k) = Err (n + k)

pub shifted_more : (n : ℕ) (r : Result ℕ ℕ) → shifted n (further r) ≡ shifted (n + 1) r
shifted_more n (Ok k) = ap Ok (omega arith)
shifted_more n (Err k) = ap Err (omega arith)

pub further_found : (r : Result ℕ ℕ) (k : ℕ) → further r ≡ Ok k → (j : ℕ) × (r ≡ Ok j) × (k ≡ suc j)
further_found (Ok j) k e = (j, refl, cc)
further_found (Err j) k e = (0, cc, cc)

pub further_absent : (r : Result ℕ ℕ) (k : ℕ) → further r ≡ Err k → (j : ℕ) × (r ≡ Err j) × (k ≡ suc j)
further_absent (Ok j) k e = (0, cc, cc)
further_absent (Err j) k e = (j, refl, cc)

module _ {X : Type 0} (less : X → X → Bool) (x : X) where
  -- ---- at the first item
  pub lookup_less : (y : X) (ys : List X) → rank less y x ≡ Less → lookup less x (y ∷ ys) ≡ further (lookup less x ys)
  lookup_less y ys h = rw (rank_less less y x h)

  pub lookup_equal : (y : X) (ys : List X) → rank less y x ≡ Equal → lookup less x (y ∷ ys) ≡ Ok 0
  lookup_equal y ys h = let t = rank_equal less y x h in rw (t.0, t.1)

  pub lookup_greater : (y : X) (ys : List X) → rank less y x ≡ Greater → lookup less x (y ∷ ys) ≡ Err 0
  lookup_greater y ys h = let t = rank_greater less y x h in rw (t.0, t.1)

  -- ---- what an insertion makes, by the lookup
  pub inserted_found : (xs : List X) (k : ℕ) → lookup less x xs ≡ Ok k → inserted less x xs ≡ xs
  inserted_found [] k h = cc
  inserted_found (y ∷ ys) k h = go (less y x) (less x y) h (inserted_found ys)
    where
      go : (s t : Bool) → cond s (further (lookup less x ys)) (cond t (Err 0) (Ok 0)) ≡ Ok k → ((j : ℕ) → lookup less x ys ≡ Ok j → inserted less x ys ≡ ys) → cond s (y ∷ inserted less x ys) (cond t (x ∷ y ∷ ys) (y ∷ ys)) ≡ y ∷ ys
      go true t e r = let f = further_found (lookup less x ys) k e in let q : inserted less x ys ≡ ys = r f.0 f.1 in cc
      go false true e r = cc
      go false false e r = refl

  pub absent_within : (xs : List X) (k : ℕ) → lookup less x xs ≡ Err k → k ≤ length xs
  absent_within [] k h = let e : k ≡ 0 = cc in omega arith
  absent_within (y ∷ ys) k h = go (less y x) (less x y) h (absent_within ys)
    where
      go : (s t : Bool) → cond s (further (lookup less x ys)) (cond t (Err 0) (Ok 0)) ≡ Err k → ((j : ℕ) → lookup less x ys ≡ Err j → j ≤ length ys) → k ≤ suc (length ys)
      go true t e r = let f = further_absent (lookup less x ys) k e in omega (arith, f.2, r f.0 f.1)
      go false true e r = let z : k ≡ 0 = cc in omega arith
      go false false e r = let z : k ≡ 0 = cc in omega arith

  pub inserted_absent : (xs : List X) (k : ℕ) → lookup less x xs ≡ Err k → inserted less x xs ≡ take k xs ++ x ∷ drop k xs
  inserted_absent [] k h = let e : 0 ≡ k = cc in rw (← e)
  inserted_absent (y ∷ ys) k h = go (less y x) (less x y) h (inserted_absent ys)
    where
      go : (s t : Bool) → cond s (further (lookup less x ys)) (cond t (Err 0) (Ok 0)) ≡ Err k → ((j : ℕ) → lookup less x ys ≡ Err j → inserted less x ys ≡ take j ys ++ x ∷ drop j ys) → cond s (y ∷ inserted less x ys) (cond t (x ∷ y ∷ ys) (y ∷ ys)) ≡ take k (y ∷ ys) ++ x ∷ drop k (y ∷ ys)
      go true t e r = let f = further_absent (lookup less x ys) k e in rw f.2 (ap {B = List X} (λ l. y ∷ l) (r f.0 f.1))
      go false true e r = let z : 0 ≡ k = cc in rw (← z)
      go false false e r = cc

  pub length_inserted_absent : (xs : List X) (k : ℕ) → lookup less x xs ≡ Err k → length (inserted less x xs) ≡ length xs + 1
  length_inserted_absent xs k h = ap length (inserted_absent xs k h) ∙ edits.length-insert xs k x (absent_within xs k h)

  pub length_inserted_le : (xs : List X) → length (inserted less x xs) ≤ length xs + 1
  length_inserted_le xs = go (lookup less x xs) refl
    where
      go : (r : Result ℕ ℕ) → lookup less x xs ≡ r → length (inserted less x xs) ≤ length xs + 1
      go (Ok k) e = omega (arith, ap length (inserted_found xs k e))
      go (Err k) e = omega (arith, length_inserted_absent xs k e)
