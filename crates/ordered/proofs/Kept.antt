-- How many items a test keeps: all, and no more with a narrower test.
use Rattle.std.proofs.Common.{◌≡◌, suc, ◌<◌, ◌≤◌, Bool, true, false, cond, ◌⊎◌, List, [], ◌∷◌, length, filter, refl, ap, ◌∙◌, inl, inr, arith}
use Rattle.std.proofs.lemmas.List.Sums.{length-filter, count_by-le-length}
use Rattle.std.proofs.lemmas.Bool.{false≢true}
use Rattle.ordered.specs.Members.{In}

pub length_kept_le : {X : Type 0} (p : X → Bool) (xs : List X) → length (filter p xs) ≤ length xs
length_kept_le p xs = omega (arith, length-filter p xs, count_by-le-length p xs)

-- a test that keeps as many as there are keeps all
pub kept_all : {X : Type 0} (p : X → Bool) (xs : List X) → length (filter p xs) ≡ length xs → (x : X) → In x xs → p x ≡ true
kept_all p [] e x h = absurd h
kept_all p (y ∷ ys) e x h = go (p y) refl e h (λ f. kept_all p ys f x)
  where
    go : (b : Bool) → p y ≡ b → length (cond b (y ∷ filter p ys) (filter p ys)) ≡ length (y ∷ ys) → In x (y ∷ ys) → (length (filter p ys) ≡ length ys → In x ys → p x ≡ true) → p x ≡ true
    go true k f (inl q) r = ap p q ∙ k
    go true k f (inr q) r = r (omega arith) q
    go false k f q r = absurd (omega (arith, length_kept_le p ys))

pub length_kept_all : {X : Type 0} (p : X → Bool) (xs : List X) → ((x : X) → In x xs → p x ≡ true) → length (filter p xs) ≡ length xs
length_kept_all p [] h = refl
length_kept_all p (x ∷ xs) h = rw (h x (inl refl)) (ap suc (length_kept_all p xs (λ y q. h y (inr q))))

-- a wider test keeps the same or more
pub kept_wider : {X : Type 0} (p q : X → Bool) (xs : List X) → ((x : X) → In x xs → p x ≡ true → q x ≡ true) → (filter q xs ≡ filter p xs) ⊎ (length (filter p xs) < length (filter q xs))
kept_wider p q [] w = inl refl
kept_wider {X} p q (x ∷ xs) w = go (p x) (q x) (w x (inl refl)) (kept_wider p q xs (λ y h. w y (inr h)))
  where
    P : List X
    P = filter p xs

    Q : List X
    Q = filter q xs

    go : (b c : Bool) → (b ≡ true → c ≡ true) → (Q ≡ P) ⊎ (length P < length Q) → (cond c (x ∷ Q) Q ≡ cond b (x ∷ P) P) ⊎ (length (cond b (x ∷ P) P) < length (cond c (x ∷ Q) Q))
    go true true i (inl e) = inl (ap (λ (l : List X). x ∷ l) e)
    go true true i (inr l) = inr (omega arith)
    go true false i r = absurd (false≢true (i refl))
    go false true i (inl e) = inr (omega (arith, ap length e))
    go false true i (inr l) = inr (omega arith)
    go false false i r = r
