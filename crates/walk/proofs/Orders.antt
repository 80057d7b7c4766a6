-- The order of numbers and of lists of numbers, and ascending lists one behind the other.
use Rattle.std.proofs.Common.{◌≡◌, ℕ, ◌<◌, Bool, true, ltb, List, [], ◌∷◌, ◌++◌, refl, inl, inr, ⊎_elim}
use Rattle.std.proofs.lemmas.Bool.{lt-ltb}
use Rattle.ordered.specs.Members.{In}
use Rattle.ordered.specs.Orders.{StrictTotal, Ascending, list_less}
use Rattle.ordered.proofs.Members.{from_append}
use Rattle.ordered.proofs.Orders.{number_order, less_rank, equal_rank, list_order}

pub picks_order : StrictTotal (list_less ltb)
picks_order = list_order ltb number_order

pub less_head : (a b : ℕ) (p r : List ℕ) → a < b → list_less ltb (a ∷ p) (b ∷ r) ≡ true
less_head a b p r l = rw (less_rank ltb a b (lt-ltb a b l))

pub less_tail : (a : ℕ) (p r : List ℕ) → list_less ltb p r ≡ true → list_less ltb (a ∷ p) (a ∷ r) ≡ true
less_tail a p r h = rw (equal_rank ltb number_order a a refl) h

pub ascending_append : {X : Type 0} (less : X → X → Bool) (xs ys : List X) → Ascending less xs → Ascending less ys → ((x y : X) → In x xs → In y ys → less x y ≡ true) → Ascending less (xs ++ ys)
ascending_append less [] ys a b f = b
ascending_append less (x ∷ xs) ys a b f = (
  λ z m. ⊎_elim (a.0 z) (f x z (inl refl)) (from_append xs ys z m),
  ascending_append less xs ys a.1 b (λ v w m n. f v w (inr m) n),
)
