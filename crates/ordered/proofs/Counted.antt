-- The numbers from one on, in their order.
use Rattle.std.proofs.Common.{◌≡◌, ℕ, zero, suc, ◌+◌, ◌<◌, ◌≤◌, Bool, true, ltb, List, [], ◌∷◌, ◌++◌, sym, refl, ap, ◌∙◌, inl, inr, ⊎_elim, add-zero, arith}
use Rattle.std.specs.List.{range_with_len}
use Rattle.std.proofs.lemmas.Bool.{lt-ltb, cases_eq}
use Rattle.ordered.specs.Members.{In}
use Rattle.ordered.specs.Orders.{Ascending}
use Rattle.ordered.specs.Lookups.{inserted}

pub counting_suc : (a n : ℕ) → range_with_len a (suc n) ≡ range_with_len a n ++ (a + n) ∷ []
counting_suc a zero = ap (λ k. k ∷ []) (sym (add-zero a))
counting_suc a (suc n) =
    let e : a + 1 + n ≡ a + suc n = omega arith in
    ap (λ l. a ∷ l) (counting_suc (a + 1) n ∙ ap (λ k. range_with_len (a + 1) n ++ k ∷ []) e)

pub from_counting : (a n x : ℕ) → In x (range_with_len a n) → (a ≤ x) × (x < a + n)
from_counting a zero x h = absurd h
from_counting a (suc n) x (inl e) = (omega arith, omega arith)
from_counting a (suc n) x (inr h) = let t = from_counting (a + 1) n x h in (omega arith, omega arith)

pub in_counting : (a n x : ℕ) → a ≤ x → x < a + n → In x (range_with_len a n)
in_counting a zero x l h = absurd (omega arith)
in_counting a (suc n) x l h = ⊎_elim (λ e. inl e) (λ d. inr (in_counting (a + 1) n x (omega arith) (omega arith))) (cases_eq x a)

pub ascending_counting : (a n : ℕ) → Ascending ltb (range_with_len a n)
ascending_counting a zero = tt
ascending_counting a (suc n) = (λ y h. lt-ltb a y (omega (arith, (from_counting (a + 1) n y h).0)), ascending_counting (a + 1) n)

-- ---- insertion in order
-- an item above all others goes to the end
pub inserted_last : {X : Type 0} (less : X → X → Bool) (x : X) (xs : List X) → ((y : X) → In y xs → less y x ≡ true) → inserted less x xs ≡ xs ++ x ∷ []
inserted_last less x [] h = refl
inserted_last less x (y ∷ ys) h = rw (h y (inl refl)) (ap (λ l. y ∷ l) (inserted_last less x ys (λ z q. h z (inr q))))
