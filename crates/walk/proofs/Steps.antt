-- The steps of the machine that goes through the picks: the lists still to come, and the measure.
use Rattle.std.proofs.Common.{◌≡◌, ℕ, zero, suc, ◌+◌, ◌-◌, ◌<◌, ◌≤◌, ◌⊎◌, List, [], ◌∷◌, ◌++◌, map, length, sym, refl, ap, ◌∙◌, ap₂, inl, inr, append_assoc, arith, length-append}
use Rattle.std.proofs.lemmas.List.{map-append, append-nil}
use Rattle.std.proofs.lemmas.Bool.{cases_lt}
use Rattle.ordered.specs.Members.{In}
use Rattle.walk.specs.Neighbourhoods.{Neighbourhood}
use Rattle.walk.specs.Places.{after_pick, places_from}
use Rattle.walk.specs.Lawful.{InTurn}
use Rattle.walk.specs.Listings.{branches, picks_from}
use Rattle.walk.specs.Steps.{todo, tries, work, work_left, Machines}

module _ {X : Type 0} (g : Neighbourhood X) where
  -- ---- one place
  -- the lists that begin with place i, and then those that begin with a later one
  pub picks_split : (n : ℕ) (P : List X) (i : ℕ) → i < length P → picks_from g (suc n) P i ≡ map (λ r. i ∷ r) (picks_from g n (after_pick g P i) (i + 1)) ++ picks_from g (suc n) P (i + 1)
  picks_split n P i h = let e : length P - i ≡ suc (length P - (i + 1)) = omega arith in ap (λ c. branches (λ q. picks_from g n (after_pick g P q) (q + 1)) c i) e

  pub picks_none : (n : ℕ) (P : List X) (i : ℕ) → 0 < n → length P ≤ i → picks_from g n P i ≡ []
  picks_none zero P i o h = absurd (omega arith)
  picks_none (suc n) P i o h = let e : length P - i ≡ 0 = omega arith in ap (λ c. branches (λ q. picks_from g n (after_pick g P q) (q + 1)) c i) e

  work_split : (n : ℕ) (P : List X) (i : ℕ) → i < length P → work g (suc n) P i ≡ suc (work g n (after_pick g P i) (i + 1)) + work g (suc n) P (i + 1)
  work_split n P i h = let e : length P - i ≡ suc (length P - (i + 1)) = omega arith in ap (λ c. tries (λ q. work g n (after_pick g P q) (q + 1)) c i) e

  work_none : (n : ℕ) (P : List X) (i : ℕ) → length P ≤ i → work g n P i ≡ 0
  work_none zero P i h = refl
  work_none (suc n) P i h = let e : length P - i ≡ 0 = omega arith in ap (λ c. tries (λ q. work g n (after_pick g P q) (q + 1)) c i) e

  -- ---- the lists still to come
  pub todo_picks : (n : ℕ) (P : List X) (p : List ℕ) (i : ℕ) → length p < n → i < length (places_from g P p) → todo g n P p i ≡ todo g n P (p ++ i ∷ []) (i + 1)
  todo_picks zero P p i d h = absurd (omega arith)
  todo_picks (suc n) P [] i d h = picks_split n P i h
  todo_picks (suc n) P (q ∷ p) i d h = ap (λ L. map (λ r. q ∷ r) L ++ picks_from g (suc n) P (q + 1)) (todo_picks n (after_pick g P q) p i (omega arith) h)

  todo_lists : (n : ℕ) (P : List X) (p : List ℕ) (i : ℕ) → length p + 1 ≡ n → i < length (places_from g P p) → todo g n P p i ≡ (p ++ i ∷ []) ∷ todo g n P p (i + 1)
  todo_lists zero P p i d h = absurd (omega arith)
  todo_lists (suc zero) P [] i d h = picks_split 0 P i h
  todo_lists (suc (suc n)) P [] i d h = absurd (omega arith)
  todo_lists (suc n) P (q ∷ p) i d h = ap (λ L. map (λ r. q ∷ r) L ++ picks_from g (suc n) P (q + 1)) (todo_lists n (after_pick g P q) p i (omega arith) h)

  todo_back : (n : ℕ) (P : List X) (p : List ℕ) (q i : ℕ) → length p + 1 < n → length (places_from g P (p ++ q ∷ [])) ≤ i → todo g n P (p ++ q ∷ []) i ≡ todo g n P p (q + 1)
  todo_back zero P p q i d h = absurd (omega arith)
  todo_back (suc n) P [] q i d h = ap (λ L. map (λ r. q ∷ r) L ++ picks_from g (suc n) P (q + 1)) (picks_none n (after_pick g P q) i (omega arith) h)
  todo_back (suc n) P (s ∷ p) q i d h = ap (λ L. map (λ r. s ∷ r) L ++ picks_from g (suc n) P (s + 1)) (todo_back n (after_pick g P s) p q i (omega arith) h)

  -- ---- the end of the whole list
  branches_append : (f : ℕ → List (List ℕ)) (a b q : ℕ) → branches f (a + b) q ≡ branches f a q ++ branches f b (q + a)
  branches_append f zero b q = ap₂ (branches f) (omega arith) (omega arith)
  branches_append f (suc a) b q =
      let e : suc a + b ≡ suc (a + b) = omega arith in
      let k : q + 1 + a ≡ q + suc a = omega arith in
      ap (λ c. branches f c q) e
      ∙ ap (λ L. map (λ r. q ∷ r) (f q) ++ L) (branches_append f a b (q + 1) ∙ ap (λ z. branches f a (q + 1) ++ branches f b z) k)
      ∙ sym (append_assoc (map (λ r. q ∷ r) (f q)) (branches f a (q + 1)) (branches f b (q + suc a)))

  picks_skip : (n : ℕ) (P : List X) (j i : ℕ) → 0 < n → j ≤ i → (front : List (List ℕ)) × (picks_from g n P j ≡ front ++ picks_from g n P i)
  picks_skip zero P j i o h = absurd (omega arith)
  picks_skip (suc n) P j i o h = go (cases_lt i (length P))
    where
      f : ℕ → List (List ℕ)
      f q = picks_from g n (after_pick g P q) (q + 1)

      go : (i < length P) ⊎ (length P ≤ i) → (front : List (List ℕ)) × (picks_from g (suc n) P j ≡ front ++ picks_from g (suc n) P i)
      go (inl l) =
          let e : length P - j ≡ (i - j) + (length P - i) = omega arith in
          let k : j + (i - j) ≡ i = omega arith in
          (branches f (i - j) j, ap (λ c. branches f c j) e ∙ branches_append f (i - j) (length P - i) j ∙ ap (λ z. branches f (i - j) j ++ branches f (length P - i) z) k)
      go (inr l) = (picks_from g (suc n) P j, sym (append-nil (picks_from g (suc n) P j)) ∙ ap (λ L. picks_from g (suc n) P j ++ L) (sym (picks_none (suc n) P i (omega arith) l)))

  todo_last : (n : ℕ) (P : List X) (j : ℕ) (p : List ℕ) (i : ℕ) → length p < n → InTurn g P j p → j ≤ i → ((q : ℕ) → In q p → q < i) → (front : List (List ℕ)) × (picks_from g n P j ≡ front ++ todo g n P p i)
  todo_last zero P j p i d l h b = absurd (omega arith)
  todo_last (suc n) P j [] i d l h b = picks_skip (suc n) P j i (omega arith) h
  todo_last (suc n) P j (q ∷ p) i d l h b =
      let k : q < i = b q (inl refl) in
      let (A, a) = picks_skip (suc n) P j q (omega arith) l.0 in
      let (B, e) = todo_last n (after_pick g P q) (q + 1) p i (omega arith) l.2 (omega arith) (λ r m. b r (inr m)) in
      let C = picks_from g (suc n) P (q + 1) in
      let T = todo g n (after_pick g P q) p i in (
        A ++ map (λ r. q ∷ r) B,
        a
            ∙ ap (λ L. A ++ L) (picks_split n P q l.1 ∙ ap (λ L. map (λ r. q ∷ r) L ++ C) e ∙ ap (λ L. L ++ C) (map-append (λ r. q ∷ r) B T) ∙ append_assoc (map (λ r. q ∷ r) B) (map (λ r. q ∷ r) T) C)
            ∙ sym (append_assoc A (map (λ r. q ∷ r) B) (map (λ r. q ∷ r) T ++ C)),
      )

  -- ---- the places still to be tried
  left_picks : (n : ℕ) (P : List X) (p : List ℕ) (i : ℕ) → length p < n → i < length (places_from g P p) → work_left g n P p i ≡ suc (work_left g n P (p ++ i ∷ []) (i + 1))
  left_picks zero P p i d h = absurd (omega arith)
  left_picks (suc n) P [] i d h = work_split n P i h ∙ omega arith
  left_picks (suc n) P (q ∷ p) i d h = ap (λ w. w + work g (suc n) P (q + 1)) (left_picks n (after_pick g P q) p i (omega arith) h) ∙ omega arith

  left_lists : (n : ℕ) (P : List X) (p : List ℕ) (i : ℕ) → length p + 1 ≡ n → i < length (places_from g P p) → work_left g n P p i ≡ suc (work_left g n P p (i + 1))
  left_lists zero P p i d h = absurd (omega arith)
  left_lists (suc zero) P [] i d h = work_split 0 P i h ∙ omega arith
  left_lists (suc (suc n)) P [] i d h = absurd (omega arith)
  left_lists (suc n) P (q ∷ p) i d h = ap (λ w. w + work g (suc n) P (q + 1)) (left_lists n (after_pick g P q) p i (omega arith) h) ∙ omega arith

  left_back : (n : ℕ) (P : List X) (p : List ℕ) (q i : ℕ) → length p < n → length (places_from g P (p ++ q ∷ [])) ≤ i → work_left g n P (p ++ q ∷ []) i ≡ work_left g n P p (q + 1)
  left_back zero P p q i d h = absurd (omega arith)
  left_back (suc n) P [] q i d h = ap (λ w. w + work g (suc n) P (q + 1)) (work_none n (after_pick g P q) i h) ∙ omega arith
  left_back (suc n) P (s ∷ p) q i d h = ap (λ w. w + work g (suc n) P (s + 1)) (left_back n (after_pick g P s) p q i (omega arith) h)

pub machines : {X : Type 0} → Machines X
machines g n P = record {
  starts = λ i. refl;
  lists = todo_lists g n P;
  lists_less = λ p i d h. omega (arith, left_lists g n P p i d h);
  picks = λ p i d h. todo_picks g n P p i (omega arith) h;
  picks_less = λ p i d h. omega (arith, left_picks g n P p i (omega arith) h, length-append p (i ∷ []));
  takes_back = todo_back g n P;
  takes_back_less = λ p q i d h. omega (arith, left_back g n P p q i (omega arith) h, length-append p (q ∷ []));
  comes_last = todo_last g n P;
  ends = λ i o h. picks_none g n P i o h;
}
