-- The walk of a lawful pick list's cells gives it back, so no two lawful pick lists have the same cells.
use Rattle.std.proofs.Common.{◌≡◌, ℕ, suc, ◌+◌, ◌<◌, ◌≤◌, ◌⊎◌, List, [], ◌∷◌, length, sym, refl, ap, ◌∙◌, subst, inl, inr, ⊎_elim, arith}
use Rattle.std.proofs.lemmas.Bool.{cases_eq}
use Rattle.ordered.specs.Members.{In, NoRepeats}
use Rattle.ordered.proofs.Members.{no_repeats_place}
use Rattle.walk.specs.Neighbourhoods.{Neighbourhood, SameItems}
use Rattle.walk.specs.Places.{cell_at, after_pick, cells_from, cells_of, first_places}
use Rattle.walk.specs.Lawful.{InTurn, Lawful}
use Rattle.walk.specs.Walks.{walk_from, walk}
use Rattle.walk.proofs.Lists.{fewer}
use Rattle.walk.proofs.Places.{pick_differ, first_differ}
use Rattle.walk.proofs.Turns.{walk_picks, walk_passes, walk_ends, by_places}
use Rattle.walk.proofs.Sound.{length_cells, pick_cell, pick_length, not_again, cells_differ}

module _ {X : Type 0} (g : Neighbourhood X) (S : List X) where
  -- x stands before place i
  abbrev Before : List X → ℕ → X → Type 0
  Before P i x = (k : ℕ) × (k < i) × (k < length P) × (cell_at g P k ≡ x)

  -- p are lawful picks of at most k cells, these are in S, and the other cells of S stand before place i
  record Picking (k : ℕ) (P : List X) (i : ℕ) (p : List ℕ) : Type 0 where
    differ : NoRepeats P
    lawful : InTurn g P i p
    few : length p ≤ k
    inside : (x : X) → In x (cells_from g P p) → In x S
    rest : (x : X) → In x S → Before P i x ⊎ In x (cells_from g P p)

  abbrev Back : ℕ → List X → ℕ → Type 0
  Back k P i = (p : List ℕ) → Picking k P i p → walk_from g S k P i ≡ p

  over : (P : List X) (i : ℕ) → Back 0 P i
  over P i [] c = refl
  over P i (q ∷ p) c = absurd (omega (arith, c.few))

  ends : (k : ℕ) (P : List X) (i : ℕ) → length P ≤ i → Back (suc k) P i
  ends k P i h [] c = walk_ends g S (suc k) P i h
  ends k P i h (q ∷ p) c = absurd (omega (arith, c.lawful.0, c.lawful.1))

  not_before : (P : List X) (i : ℕ) → NoRepeats P → i < length P → Before P i (cell_at g P i) → ⊥
  not_before P i u h t = omega (arith, t.1, no_repeats_place P t.0 i g.start u t.2 h t.3)

  -- a place whose cell is in S is the first of the picks
  is_first : (k : ℕ) (P : List X) (i q : ℕ) (p : List ℕ) → i < length P → In (cell_at g P i) S → Picking k P i (q ∷ p) → q ≡ i
  is_first k P i q p h m c = go (c.rest (cell_at g P i) m)
    where
      go : Before P i (cell_at g P i) ⊎ In (cell_at g P i) (cells_from g P (q ∷ p)) → q ≡ i
      go (inl t) = absurd (not_before P i c.differ h t)
      go (inr (inl e)) = no_repeats_place P q i g.start c.differ c.lawful.1 h (sym e)
      go (inr (inr n)) = absurd (not_again g P i i q p c.differ c.lawful c.lawful.0 n)

  after : (k : ℕ) (P : List X) (i : ℕ) (p : List ℕ) → Picking (suc k) P i (i ∷ p) → Picking k (after_pick g P i) (i + 1) p
  after k P i p c = record {
    differ = pick_differ g P i c.differ;
    lawful = c.lawful.2;
    few = omega (arith, c.few);
    inside = λ x n. c.inside x (inr n);
    rest = λ x n. go x (c.rest x n);
  }
    where
      go : (x : X) → Before P i x ⊎ In x (cells_from g P (i ∷ p)) → Before (after_pick g P i) (i + 1) x ⊎ In x (cells_from g (after_pick g P i) p)
      go x (inl t) = inl (t.0, omega (arith, t.1), omega (arith, t.2, pick_length g P i), pick_cell g P i t.0 t.2 ∙ t.3)
      go x (inr (inl e)) = inl (i, omega arith, omega (arith, c.lawful.1, pick_length g P i), pick_cell g P i i c.lawful.1 ∙ sym e)
      go x (inr (inr n)) = inr n

  picks : (k : ℕ) (P : List X) (i : ℕ) → i < length P → In (cell_at g P i) S → Back k (after_pick g P i) (i + 1) → Back (suc k) P i
  picks k P i h m r [] c = absurd (⊎_elim (not_before P i c.differ h) (λ n. n) (c.rest (cell_at g P i) m))
  picks k P i h m r (q ∷ p) c =
      let e : q ≡ i = is_first (suc k) P i q p h m c in
      subst (λ j. walk_from g S (suc k) P i ≡ j ∷ p) (sym e) (walk_picks g S k P i h m ∙ ap {B = List ℕ} (λ z. i ∷ z) (r p (after k P i p (subst (λ j. Picking (suc k) P i (j ∷ p)) e c))))

  -- a place whose cell is not in S is not picked
  later : (k : ℕ) (P : List X) (i : ℕ) (p : List ℕ) → (In (cell_at g P i) S → ⊥) → Picking k P i p → InTurn g P (i + 1) p
  later k P i [] n c = tt
  later k P i (q ∷ p) n c = ⊎_elim (λ e. absurd (n (subst (λ j. In (cell_at g P j) S) e (c.inside (cell_at g P q) (inl refl))))) (λ d. (omega (arith, c.lawful.0, d), c.lawful.1, c.lawful.2)) (cases_eq q i)

  passes : (k : ℕ) (P : List X) (i : ℕ) → i < length P → (In (cell_at g P i) S → ⊥) → Back (suc k) P (i + 1) → Back (suc k) P i
  passes k P i h n r p c = walk_passes g S (suc k) P i h n ∙ r p (record {
    differ = c.differ;
    lawful = later (suc k) P i p n c;
    few = c.few;
    inside = c.inside;
    rest = λ x m. ⊎_elim (λ t. inl (t.0, omega (arith, t.1), t.2, t.3)) (λ t. inr t) (c.rest x m);
  })

  back_from : (k : ℕ) (P : List X) (i : ℕ) → Back k P i
  back_from = by_places g S Back over ends picks passes

module _ {X : Type 0} (g : Neighbourhood X) where
  pub walk_back : (n : ℕ) (p : List ℕ) (S : List X) → Lawful g n p → SameItems S (cells_of g p) → walk g S ≡ p
  walk_back n p S l a = back_from g S (length S) (first_places g) 0 p (record {
    differ = first_differ g;
    lawful = l.1;
    few = omega (arith, length_cells g (first_places g) p, fewer g (cells_of g p) S (cells_differ g (first_places g) 0 p (first_differ g) l.1) (λ x m. (a x).1 m));
    inside = λ x m. (a x).1 m;
    rest = λ x m. inr ((a x).0 m);
  })

  pub picks_unique : (m n : ℕ) (p r : List ℕ) → Lawful g m p → Lawful g n r → SameItems (cells_of g p) (cells_of g r) → p ≡ r
  picks_unique m n p r l k a = sym (walk_back m p (cells_of g p) l (λ x. (λ h. h, λ h. h))) ∙ walk_back n r (cells_of g p) k a
