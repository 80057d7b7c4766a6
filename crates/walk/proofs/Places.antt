-- Place lists: they never repeat a cell and only grow at their end, and what is on them.
use Rattle.std.proofs.Common.{◌≡◌, ℕ, true, false, cond, not, ◌&&◌, ◌⊎◌, List, [], ◌∷◌, ◌++◌, sym, refl, ap, ◌∙◌, subst, inl, inr, ⊎_elim}
use Rattle.std.proofs.lemmas.Bool.{and_parts, and_from, not-true, not_from_false, cases_Bool, cond_both, false≢true}
use Rattle.ordered.specs.Members.{In, NoRepeats}
use Rattle.ordered.proofs.Members.{in_append_right, from_append}
use Rattle.walk.specs.Neighbourhoods.{Neighbourhood, on, Begins}
use Rattle.walk.specs.Places.{put, put_all, cell_at, after_pick, places_from, first_places, PlaceListsLawful}
use Rattle.walk.proofs.Lists.{on_sound, in_on, no_repeats_push, begins_refl, begins_trans, begins_in, begins_take}
use Rattle.walk.proofs.Spread.{spread_at_once}

module _ {X : Type 0} (g : Neighbourhood X) where
  pub put_begins : (P : List X) (y : X) → Begins P (put g P y)
  put_begins P y = cond_both (g.above y && not (on g P y)) (P ++ y ∷ []) P (Begins P) (λ _. (y ∷ [], refl)) (λ _. begins_refl P)

  pub put_differ : (P : List X) (y : X) → NoRepeats P → NoRepeats (put g P y)
  put_differ P y u =
      cond_both (g.above y && not (on g P y)) (P ++ y ∷ []) P NoRepeats
      (λ e. no_repeats_push P y u (λ m. false≢true (sym (not-true (on g P y) (and_parts (g.above y) (not (on g P y)) e).1) ∙ in_on g P y m)))
      (λ _. u)

  -- what is put was there, or is the new cell, which is above
  pub in_put : (P : List X) (y z : X) → In z (put g P y) → In z P ⊎ ((z ≡ y) × (g.above z ≡ true))
  in_put P y z =
      cond_both (g.above y && not (on g P y)) (P ++ y ∷ []) P (λ Q. In z Q → In z P ⊎ ((z ≡ y) × (g.above z ≡ true)))
      (λ e m. ⊎_elim (λ h. inl h) (λ h. ⊎_elim (λ f. inr (f, ap (λ w. g.above w) f ∙ (and_parts (g.above y) (not (on g P y)) e).0)) (λ k. absurd k) h) (from_append P (y ∷ []) z m))
      (λ _ m. inl m)

  pub put_has : (P : List X) (y : X) → g.above y ≡ true → In y (put g P y)
  put_has P y a = ⊎_elim there new (cases_Bool (on g P y))
    where
      there : on g P y ≡ true → In y (put g P y)
      there e = begins_in P (put g P y) y (put_begins P y) (on_sound g P y e)

      new : on g P y ≡ false → In y (put g P y)
      new e = subst (λ b. In y (cond b (P ++ y ∷ []) P)) (sym (and_from (g.above y) (not (on g P y)) a (not_from_false (on g P y) e))) (in_append_right P (y ∷ []) y (inl refl))

  pub put_all_begins : (P ys : List X) → Begins P (put_all g P ys)
  put_all_begins P [] = begins_refl P
  put_all_begins P (y ∷ ys) = begins_trans P (put g P y) (put_all g (put g P y) ys) (put_begins P y) (put_all_begins (put g P y) ys)

  pub put_all_differ : (P ys : List X) → NoRepeats P → NoRepeats (put_all g P ys)
  put_all_differ P [] u = u
  put_all_differ P (y ∷ ys) u = put_all_differ (put g P y) ys (put_differ P y u)

  pub in_put_all : (P ys : List X) (z : X) → In z (put_all g P ys) → In z P ⊎ (In z ys × (g.above z ≡ true))
  in_put_all P [] z m = inl m
  in_put_all P (y ∷ ys) z m =
      ⊎_elim
      (λ h. ⊎_elim (λ k. inl k) (λ k. inr (inl k.0, k.1)) (in_put P y z h))
      (λ h. inr (inr h.0, h.1))
      (in_put_all (put g P y) ys z m)

  pub put_all_has : (P ys : List X) (z : X) → In z ys → g.above z ≡ true → In z (put_all g P ys)
  put_all_has P [] z m a = absurd m
  put_all_has P (y ∷ ys) z (inl e) a =
      begins_in (put g P y) (put_all g (put g P y) ys) z (put_all_begins (put g P y) ys) (subst (λ w. In w (put g P y)) (sym e) (put_has P y (subst (λ w. g.above w ≡ true) e a)))
  put_all_has P (y ∷ ys) z (inr m) a = put_all_has (put g P y) ys z m a

  pub pick_begins : (P : List X) (q : ℕ) → Begins P (after_pick g P q)
  pick_begins P q = put_all_begins P (g.near (cell_at g P q))

  pub pick_differ : (P : List X) (q : ℕ) → NoRepeats P → NoRepeats (after_pick g P q)
  pick_differ P q u = put_all_differ P (g.near (cell_at g P q)) u

  pub places_begins : (P : List X) (p : List ℕ) → Begins P (places_from g P p)
  places_begins P [] = begins_refl P
  places_begins P (q ∷ p) = begins_trans P (after_pick g P q) (places_from g (after_pick g P q) p) (pick_begins P q) (places_begins (after_pick g P q) p)

  pub places_differ : (P : List X) (p : List ℕ) → NoRepeats P → NoRepeats (places_from g P p)
  places_differ P [] u = u
  places_differ P (q ∷ p) u = places_differ (after_pick g P q) p (pick_differ P q u)

  pub places_append : (P : List X) (p r : List ℕ) → places_from g P (p ++ r) ≡ places_from g (places_from g P p) r
  places_append P [] r = refl
  places_append P (q ∷ p) r = places_append (after_pick g P q) p r

  pub places_grow : (P : List X) (p r : List ℕ) → Begins (places_from g P p) (places_from g P (p ++ r))
  places_grow P p r = subst (Begins (places_from g P p)) (sym (places_append P p r)) (places_begins (places_from g P p) r)

  pub first_differ : NoRepeats (first_places g)
  first_differ = (λ m. m, tt)

pub place_lists_lawful : {X : Type 0} → PlaceListsLawful X
place_lists_lawful g = record {
  differ = λ p. places_differ g (first_places g) p (first_differ g);
  grows = places_grow g;
  cut_back = λ P p r. begins_take (places_from g P p) (places_from g P (p ++ r)) (places_grow g P p r);
  one_more = λ P p q. places_append g P p (q ∷ []);
  at_once = spread_at_once g;
}
