-- The walk, place by place, and induction over it.
use Rattle.std.proofs.Common.{◌≡◌, ℕ, zero, suc, ◌+◌, ◌-◌, ◌<◌, ◌≤◌, ◌⊎◌, List, [], ◌∷◌, length, drop, refl, ap, ◌∙◌, inl, inr, arith}
use Rattle.std.proofs.lemmas.List.{drop_all, drop_more}
use Rattle.ordered.specs.Members.{In}
use Rattle.walk.specs.Neighbourhoods.{Neighbourhood}
use Rattle.walk.specs.Places.{cell_at, after_pick}
use Rattle.walk.specs.Walks.{look, walk_from, Turns}
use Rattle.walk.proofs.Lists.{in_on, off_on, within_or_not}

module _ {X : Type 0} (g : Neighbourhood X) (S : List X) where
  -- how the walk goes on after a pick
  abbrev on_from : ℕ → List X → ℕ → List ℕ
  on_from k P q = walk_from g S k (after_pick g P q) (q + 1)

  here : (k : ℕ) (P : List X) (i : ℕ) → i < length P → walk_from g S (suc k) P i ≡ look g S (on_from k P) (cell_at g P i ∷ drop (i + 1) P) i
  here k P i h = ap (λ xs. look g S (on_from k P) xs i) (drop_more P i g.start h)

  pub walk_picks : (k : ℕ) (P : List X) (i : ℕ) → i < length P → In (cell_at g P i) S → walk_from g S (suc k) P i ≡ i ∷ walk_from g S k (after_pick g P i) (i + 1)
  walk_picks k P i h m = here k P i h ∙ rw (in_on g S (cell_at g P i) m, look)

  pub walk_passes : (k : ℕ) (P : List X) (i : ℕ) → i < length P → (In (cell_at g P i) S → ⊥) → walk_from g S k P i ≡ walk_from g S k P (i + 1)
  walk_passes zero P i h n = refl
  walk_passes (suc k) P i h n = here k P i h ∙ rw (off_on g S (cell_at g P i) n, look)

  pub walk_ends : (k : ℕ) (P : List X) (i : ℕ) → length P ≤ i → walk_from g S k P i ≡ []
  walk_ends zero P i h = refl
  walk_ends (suc k) P i h = ap (λ xs. look g S (on_from k P) xs i) (drop_all i P h)

  -- what holds at the end of a walk, and of a walk from what holds of the rest of it at the next place, holds of every walk
  pub by_places : (Q : ℕ → List X → ℕ → Type 0)
      → ((P : List X) (i : ℕ) → Q 0 P i)
      → ((k : ℕ) (P : List X) (i : ℕ) → length P ≤ i → Q (suc k) P i)
      → ((k : ℕ) (P : List X) (i : ℕ) → i < length P → In (cell_at g P i) S → Q k (after_pick g P i) (i + 1) → Q (suc k) P i)
      → ((k : ℕ) (P : List X) (i : ℕ) → i < length P → (In (cell_at g P i) S → ⊥) → Q (suc k) P (i + 1) → Q (suc k) P i)
      → (k : ℕ) (P : List X) (i : ℕ)
      → Q k P i
  by_places Q over ends picks passes zero P i = over P i
  by_places Q over ends picks passes (suc k) P i = go (λ R j. by_places Q over ends picks passes k R j) (length P - i) i refl
    where
      go : ((R : List X) (j : ℕ) → Q k R j) → (d j : ℕ) → length P - j ≡ d → Q (suc k) P j
      go r zero j e = ends k P j (omega arith)
      go r (suc d) j e =
          let h : j < length P = omega arith in
          let rest = go r d (j + 1) (omega arith) in
          at h rest (within_or_not g (cell_at g P j) S)
        where
          at : j < length P → Q (suc k) P (j + 1) → In (cell_at g P j) S ⊎ (In (cell_at g P j) S → ⊥) → Q (suc k) P j
          at h rest (inl m) = picks k P j h m (r (after_pick g P j) (j + 1))
          at h rest (inr n) = passes k P j h n rest

pub turns : {X : Type 0} → Turns X
turns g S = record { picks = walk_picks g S; passes = walk_passes g S; all_picked = λ P i. refl; no_more_places = walk_ends g S }
