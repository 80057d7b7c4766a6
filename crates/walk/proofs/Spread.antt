-- Neighbours put on a place list one by one, and at once.
use Rattle.std.proofs.Common.{◌≡◌, Bool, true, false, cond, not, ◌&&◌, ◌||◌, List, [], ◌∷◌, ◌++◌, filter, sym, refl, ap, ◌∙◌, subst, inl, inr, ⊎_elim, append_assoc}
use Rattle.std.proofs.lemmas.List.{append-nil}
use Rattle.std.proofs.lemmas.Bool.{cond-true, cond-false, cases_Bool}
use Rattle.ordered.specs.Members.{In, NoRepeats}
use Rattle.walk.specs.Neighbourhoods.{Neighbourhood, on}
use Rattle.walk.specs.Places.{put, put_all, spread}

-- two tests that agree on the members keep the same
filter_same : {X : Type 0} (s t : X → Bool) (xs : List X) → ((x : X) → In x xs → s x ≡ t x) → filter s xs ≡ filter t xs
filter_same s t [] h = refl
filter_same {X} s t (x ∷ xs) h =
    ap (λ b. cond b (x ∷ filter s xs) (filter s xs)) (h x (inl refl))
    ∙ ap (λ L. cond (t x) (x ∷ L) L) (filter_same s t xs (λ y m. h y (inr m)))

module _ {X : Type 0} (g : Neighbourhood X) where
  on_push : (P : List X) (y z : X) → (z ≡ y → ⊥) → on g (P ++ y ∷ []) z ≡ on g P z
  on_push [] y z n = ⊎_elim (λ e. absurd (n (g.same_sound z y e))) (λ e. ap (λ b. b || false) e) (cases_Bool (g.same z y))
  on_push (x ∷ P) y z n = ap (λ b. g.same z x || b) (on_push P y z n)

  put_all_at_once : (ys P : List X) → NoRepeats ys → put_all g P ys ≡ P ++ filter (λ y. g.above y && not (on g P y)) ys
  put_all_at_once [] P u = sym (append-nil P)
  put_all_at_once (y ∷ ys) P u = ⊎_elim (new (λ Q. put_all_at_once ys Q u.1)) (old (λ Q. put_all_at_once ys Q u.1)) (cases_Bool (g.above y && not (on g P y)))
    where
      test : List X → X → Bool
      test Q z = g.above z && not (on g Q z)

      all : List X
      all = filter (test P) (y ∷ ys)

      new : ((Q : List X) → put_all g Q ys ≡ Q ++ filter (test Q) ys) → test P y ≡ true → put_all g (put g P y) ys ≡ P ++ all
      new ih e =
          ap (λ Q. put_all g Q ys) (cond-true (test P y) (P ++ y ∷ []) P e)
          ∙ ih (P ++ y ∷ [])
          ∙ append_assoc P (y ∷ []) (filter (test (P ++ y ∷ [])) ys)
          ∙ ap (λ L. P ++ y ∷ L) (filter_same (test (P ++ y ∷ [])) (test P) ys (λ z m. ap (λ b. g.above z && not b) (on_push P y z (λ f. u.0 (subst (λ w. In w ys) f m)))))
          ∙ ap (λ L. P ++ L) (sym (cond-true (test P y) (y ∷ filter (test P) ys) (filter (test P) ys) e))

      old : ((Q : List X) → put_all g Q ys ≡ Q ++ filter (test Q) ys) → test P y ≡ false → put_all g (put g P y) ys ≡ P ++ all
      old ih e =
          ap (λ Q. put_all g Q ys) (cond-false (test P y) (P ++ y ∷ []) P e)
          ∙ ih P
          ∙ ap (λ L. P ++ L) (sym (cond-false (test P y) (y ∷ filter (test P) ys) (filter (test P) ys) e))

  pub spread_at_once : (P : List X) (x : X) → NoRepeats (g.near x) → spread g P x ≡ P ++ filter (λ y. g.above y && not (on g P y)) (g.near x)
  spread_at_once P x u = put_all_at_once (g.near x) P u
