-- The test of what is on a list, the pigeonhole with it, and lists that begin with another.
use Rattle.std.proofs.Common.{◌≡◌, ℕ, ◌<◌, ◌≤◌, Bool, true, false, ◌⊎◌, List, [], ◌∷◌, ◌++◌, length, get_or, take, sym, refl, ap, ◌∙◌, subst, inl, inr, ⊎_elim, append_assoc, arith, length-append, take_all}
use lib.Seq.{take-append-le}
use Rattle.std.proofs.lemmas.List.{get_or_append_left, append-nil}
use Rattle.std.proofs.lemmas.Bool.{or_cases, or_left, or_right, false≢true}
use Rattle.ordered.specs.Members.{In, NoRepeats}
use Rattle.ordered.proofs.Members.{in_append_left, from_append}
use Rattle.ordered.proofs.Counting.{Equality, in_or_not, fits}
use Rattle.walk.specs.Neighbourhoods.{Neighbourhood, on, Begins}

module _ {X : Type 0} (g : Neighbourhood X) where
  pub equality : Equality g.same
  equality x y = (g.same_sound x y, λ e. subst (λ z. g.same x z ≡ true) e (g.same_refl x))

  pub on_sound : (xs : List X) (x : X) → on g xs x ≡ true → In x xs
  on_sound [] x e = absurd (false≢true e)
  on_sound (y ∷ ys) x e = ⊎_elim (λ s. inl (g.same_sound x y s)) (λ r. inr (on_sound ys x r)) (or_cases (g.same x y) (on g ys x) e)

  pub in_on : (xs : List X) (x : X) → In x xs → on g xs x ≡ true
  in_on [] x m = absurd m
  in_on (y ∷ ys) x (inl e) = or_left (g.same x y) (on g ys x) ((equality x y).1 e)
  in_on (y ∷ ys) x (inr m) = or_right (g.same x y) (on g ys x) (in_on ys x m)

  pub off_on : (xs : List X) (x : X) → (In x xs → ⊥) → on g xs x ≡ false
  off_on xs x n = go (on g xs x) refl
    where
      go : (b : Bool) → on g xs x ≡ b → on g xs x ≡ false
      go true e = absurd (n (on_sound xs x e))
      go false e = e

  pub within_or_not : (x : X) (xs : List X) → In x xs ⊎ (In x xs → ⊥)
  within_or_not = in_or_not g.same equality

  pub fewer : (xs ys : List X) → NoRepeats xs → ((x : X) → In x xs → In x ys) → length xs ≤ length ys
  fewer = fits g.same equality

  -- different items of ys that are as many as it has are all of them
  pub all_of : (xs ys : List X) → NoRepeats xs → ((x : X) → In x xs → In x ys) → length ys ≤ length xs → (y : X) → In y ys → In y xs
  all_of xs ys u s l y m = ⊎_elim (λ h. h) (λ out. absurd (more out)) (within_or_not y xs)
    where
      more : (In y xs → ⊥) → ⊥
      more out = omega (arith, fewer (y ∷ xs) ys (out, u) (λ z h. ⊎_elim (λ e. subst (λ w. In w ys) (sym e) m) (s z) h))

module _ {X : Type 0} where
  pub no_repeats_push : (xs : List X) (y : X) → NoRepeats xs → (In y xs → ⊥) → NoRepeats (xs ++ y ∷ [])
  no_repeats_push [] y u n = (λ m. m, tt)
  no_repeats_push (x ∷ xs) y u n = (
    λ m. ⊎_elim u.0 (λ h. ⊎_elim (λ e. n (inl (sym e))) (λ z. z) h) (from_append xs (y ∷ []) x m),
    no_repeats_push xs y u.1 (λ m. n (inr m)),
  )

  pub begins_refl : (xs : List X) → Begins xs xs
  begins_refl xs = ([], sym (append-nil xs))

  pub begins_trans : (xs ys zs : List X) → Begins xs ys → Begins ys zs → Begins xs zs
  begins_trans xs ys zs (a, e) (b, f) = (a ++ b, f ∙ ap (λ r. r ++ b) e ∙ append_assoc xs a b)

  pub begins_in : (xs ys : List X) (x : X) → Begins xs ys → In x xs → In x ys
  begins_in xs ys x b m = subst (λ l. In x l) (sym b.1) (in_append_left xs b.0 x m)

  pub begins_get_or : (xs ys : List X) (k : ℕ) (d : X) → Begins xs ys → k < length xs → get_or ys k d ≡ get_or xs k d
  begins_get_or xs ys k d b l = ap (λ z. get_or z k d) b.1 ∙ get_or_append_left xs b.0 d k l

  pub begins_length : (xs ys : List X) → Begins xs ys → length xs ≤ length ys
  begins_length xs ys b = omega (arith, ap length b.1, length-append xs b.0)

  pub begins_take : (xs ys : List X) → Begins xs ys → take (length xs) ys ≡ xs
  begins_take xs ys b = ap (take (length xs)) b.1 ∙ take-append-le (length xs) xs b.0 (omega arith) ∙ take_all (length xs) xs (omega arith)
