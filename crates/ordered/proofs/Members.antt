-- What is in a list, at which place, and lists without repeats.
use Rattle.std.proofs.Common.{◌≡◌, ℕ, zero, suc, ◌<◌, Bool, true, false, cond, ◌⊎◌, List, [], ◌∷◌, ◌++◌, map, length, get_or, filter, sym, refl, ap, ◌∙◌, subst, inl, inr, arith}
use Rattle.std.specs.List.{ContainsAt, AllByRecursion}
use Rattle.std.proofs.lemmas.Bool.{true≢false}
use Rattle.ordered.specs.Members.{In, NoRepeats}

pub in_cast : {X : Type 0} {x y : X} (xs : List X) → x ≡ y → In x xs → In y xs
in_cast {X} xs e h = subst (λ (z : X). In z xs) e h

-- ---- map
pub in_map : {X Y : Type 0} (f : X → Y) (xs : List X) (x : X) → In x xs → In (f x) (map f xs)
in_map f [] x h = absurd h
in_map f (y ∷ ys) x (inl e) = inl (ap f e)
in_map f (y ∷ ys) x (inr h) = inr (in_map f ys x h)

pub from_map : {X Y : Type 0} (f : X → Y) (xs : List X) (y : Y) → In y (map f xs) → (x : X) × In x xs × (y ≡ f x)
from_map f [] y h = absurd h
from_map f (x ∷ xs) y (inl e) = (x, inl refl, e)
from_map f (x ∷ xs) y (inr h) = let t = from_map f xs y h in (t.0, inr t.1, t.2)

-- a function that is one to one on xs
pub no_repeats_map : {X Y : Type 0} (f : X → Y) (xs : List X) → NoRepeats xs → ((x y : X) → In x xs → In y xs → f x ≡ f y → x ≡ y) → NoRepeats (map f xs)
no_repeats_map f [] h inj = tt
no_repeats_map f (x ∷ xs) h inj = (
  λ q. let t = from_map f xs (f x) q in h.0 (in_cast xs (sym (inj x t.0 (inl refl) (inr t.1) t.2)) t.1),
  no_repeats_map f xs h.1 (λ a b p q. inj a b (inr p) (inr q)),
)

-- ---- filter
pub in_kept : {X : Type 0} (p : X → Bool) (xs : List X) (x : X) → In x xs → p x ≡ true → In x (filter p xs)
in_kept p [] x h k = absurd h
in_kept p (y ∷ ys) x h k = go (p y) refl h (λ q. in_kept p ys x q k)
  where
    go : (b : Bool) → p y ≡ b → In x (y ∷ ys) → (In x ys → In x (filter p ys)) → In x (cond b (y ∷ filter p ys) (filter p ys))
    go true e (inl q) r = inl q
    go true e (inr q) r = inr (r q)
    go false e (inl q) r = absurd (true≢false (sym k ∙ ap p q ∙ e))
    go false e (inr q) r = r q

pub from_kept : {X : Type 0} (p : X → Bool) (xs : List X) (x : X) → In x (filter p xs) → In x xs × (p x ≡ true)
from_kept p [] x h = absurd h
from_kept p (y ∷ ys) x h = go (p y) refl h (λ q. from_kept p ys x q)
  where
    go : (b : Bool) → p y ≡ b → In x (cond b (y ∷ filter p ys) (filter p ys)) → (In x (filter p ys) → In x ys × (p x ≡ true)) → In x (y ∷ ys) × (p x ≡ true)
    go true e (inl q) r = (inl q, ap p q ∙ e)
    go true e (inr q) r = (inr (r q).0, (r q).1)
    go false e q r = (inr (r q).0, (r q).1)

pub no_repeats_kept : {X : Type 0} (p : X → Bool) (xs : List X) → NoRepeats xs → NoRepeats (filter p xs)
no_repeats_kept p [] h = tt
no_repeats_kept p (y ∷ ys) h = go (p y) (no_repeats_kept p ys h.1)
  where
    go : (b : Bool) → NoRepeats (filter p ys) → NoRepeats (cond b (y ∷ filter p ys) (filter p ys))
    go true r = (λ q. h.0 (from_kept p ys y q).0, r)
    go false r = r

-- ---- one list behind another
pub in_append_left : {X : Type 0} (xs ys : List X) (x : X) → In x xs → In x (xs ++ ys)
in_append_left [] ys x h = absurd h
in_append_left (y ∷ xs) ys x (inl e) = inl e
in_append_left (y ∷ xs) ys x (inr h) = inr (in_append_left xs ys x h)

pub in_append_right : {X : Type 0} (xs ys : List X) (x : X) → In x ys → In x (xs ++ ys)
in_append_right [] ys x h = h
in_append_right (y ∷ xs) ys x h = inr (in_append_right xs ys x h)

pub from_append : {X : Type 0} (xs ys : List X) (x : X) → In x (xs ++ ys) → In x xs ⊎ In x ys
from_append [] ys x h = inr h
from_append (y ∷ xs) ys x (inl e) = inl (inl e)
from_append (y ∷ xs) ys x (inr h) = go (from_append xs ys x h)
  where
    go : In x xs ⊎ In x ys → In x (y ∷ xs) ⊎ In x ys
    go (inl q) = inl (inr q)
    go (inr q) = inr q

-- ---- places
pub in_get_or : {X : Type 0} (xs : List X) (k : ℕ) (d : X) → k < length xs → In (get_or xs k d) xs
in_get_or [] k d h = absurd (omega arith)
in_get_or (x ∷ xs) zero d h = inl refl
in_get_or (x ∷ xs) (suc k) d h = inr (in_get_or xs k d (omega arith))

-- this is std's `ContainsAt xs x`
pub get_or_from_in : {X : Type 0} (xs : List X) (x : X) → In x xs → (k : ℕ) × (k < length xs) × ((d : X) → get_or xs k d ≡ x)
get_or_from_in [] x h = absurd h
get_or_from_in (y ∷ ys) x (inl e) = (0, omega arith, λ d. sym e)
get_or_from_in (y ∷ ys) x (inr h) = let t = get_or_from_in ys x h in (suc t.0, omega (arith, t.1), t.2)

pub in_from_has : {X : Type 0} (xs : List X) (x : X) → ContainsAt xs x → In x xs
in_from_has xs x t = in_cast xs (t.2 x) (in_get_or xs t.0 x t.1)

pub no_repeats_place : {X : Type 0} (xs : List X) (i j : ℕ) (d : X) → NoRepeats xs → i < length xs → j < length xs → get_or xs i d ≡ get_or xs j d → i ≡ j
no_repeats_place [] i j d a p q e = absurd (omega arith)
no_repeats_place (x ∷ xs) zero zero d a p q e = refl
no_repeats_place (x ∷ xs) zero (suc j) d a p q e = absurd (a.0 (in_cast xs (sym e) (in_get_or xs j d (omega arith))))
no_repeats_place (x ∷ xs) (suc i) zero d a p q e = absurd (a.0 (in_cast xs e (in_get_or xs i d (omega arith))))
no_repeats_place (x ∷ xs) (suc i) (suc j) d a p q e = ap suc (no_repeats_place xs i j d a.1 (omega arith) (omega arith) e)

pub no_repeats_from_places : {X : Type 0} (xs : List X) → ((i j : ℕ) (d : X) → i < length xs → j < length xs → get_or xs i d ≡ get_or xs j d → i ≡ j) → NoRepeats xs
no_repeats_from_places [] h = tt
no_repeats_from_places (x ∷ xs) h = (
  λ q. let t = get_or_from_in xs x q in let m = t.1 in omega (arith, h 0 (suc t.0) x (omega arith) (omega arith) (sym (t.2 x))),
  no_repeats_from_places xs (λ i j d p q e. omega (arith, h (suc i) (suc j) d (omega arith) (omega arith) e)),
)

-- ---- what holds of each item
pub all_in : {X : Type 0} (P : X → Type 0) (xs : List X) → AllByRecursion P xs → (x : X) → In x xs → P x
all_in P [] a x h = absurd h
all_in P (y ∷ ys) a x (inl e) = subst P (sym e) a.0
all_in P (y ∷ ys) a x (inr h) = all_in P ys a.1 x h

pub all_from_in : {X : Type 0} (P : X → Type 0) (xs : List X) → ((x : X) → In x xs → P x) → AllByRecursion P xs
all_from_in P [] h = tt
all_from_in P (x ∷ xs) h = (h x (inl refl), all_from_in P xs (λ y q. h y (inr q)))
