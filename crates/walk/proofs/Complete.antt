-- The picks of a walk are lawful and of cells of S; they are all of S exactly if S is connected.
use Rattle.std.proofs.Common.{◌≡◌, ℕ, suc, ◌+◌, ◌<◌, ◌≤◌, Bool, true, false, cond, eqb, ◌⊎◌, List, [], ◌∷◌, length, Some, None, sym, refl, ap, ◌∙◌, subst, inl, inr, ⊎_elim, arith}
use Rattle.std.proofs.lemmas.Bool.{cases_eq, cond-true, eq-eqb, eqb-true}
use Rattle.ordered.specs.Members.{In}
use Rattle.ordered.proofs.Members.{in_cast, get_or_from_in}
use Rattle.shapes.specs.Connected.{Reached, at_start, onward, Connected}
use Rattle.walk.specs.Neighbourhoods.{Neighbourhood, Rooted, SameItems}
use Rattle.walk.specs.Places.{cell_at, after_pick, cells_from, cells_of, first_places}
use Rattle.walk.specs.Lawful.{InTurn, Lawful}
use Rattle.walk.specs.Walks.{walk_from, walk, pick_list, Walks}
use Rattle.walk.proofs.Lists.{begins_in, fewer, all_of}
use Rattle.walk.proofs.Places.{pick_begins, first_differ, put_all_has}
use Rattle.walk.proofs.Turns.{walk_picks, walk_passes, walk_ends, by_places}
use Rattle.walk.proofs.Sound.{length_cells, pick_cell, cells_differ, cells_reached, first_reached, lawful_rooted, lawful_connected}
use Rattle.walk.proofs.Back.{walk_back, picks_unique}

module _ {X : Type 0} (g : Neighbourhood X) (S : List X) where
  -- ---- every walk
  -- w are lawful picks of at most k cells of S
  pub record Taken (k : ℕ) (P : List X) (i : ℕ) (w : List ℕ) : Type 0 where
    pub lawful : InTurn g P i w
    pub inside : (x : X) → In x (cells_from g P w) → In x S
    pub few : length w ≤ k

  taken_none : (k : ℕ) (P : List X) (i : ℕ) → Taken k P i []
  taken_none k P i = record { lawful = tt; inside = λ x m. absurd m; few = omega arith }

  taken_pick : (k : ℕ) (P : List X) (i : ℕ) (w : List ℕ) → i < length P → In (cell_at g P i) S → Taken k (after_pick g P i) (i + 1) w → Taken (suc k) P i (i ∷ w)
  taken_pick k P i w h m t = record {
    lawful = (omega arith, h, t.lawful);
    inside = λ x. ⊎_elim (λ e. in_cast S (sym e) m) (t.inside x);
    few = omega (arith, t.few);
  }

  in_turn_sooner : (P : List X) (i : ℕ) (w : List ℕ) → InTurn g P (i + 1) w → InTurn g P i w
  in_turn_sooner P i [] l = tt
  in_turn_sooner P i (q ∷ w) l = (omega (arith, l.0), l.1, l.2)

  pub walk_taken : (k : ℕ) (P : List X) (i : ℕ) → Taken k P i (walk_from g S k P i)
  walk_taken =
      by_places g S (λ k P i. Taken k P i (walk_from g S k P i))
      (taken_none 0)
      (λ k P i h. subst (Taken (suc k) P i) (sym (walk_ends g S (suc k) P i h)) (taken_none (suc k) P i))
      (λ k P i h m t. subst (Taken (suc k) P i) (sym (walk_picks g S k P i h m)) (taken_pick k P i (walk_from g S k (after_pick g P i) (i + 1)) h m t))
      (λ k P i h n t. subst (Taken (suc k) P i) (sym (walk_passes g S (suc k) P i h n)) (record { lawful = in_turn_sooner P i (walk_from g S (suc k) P (i + 1)) t.lawful; inside = t.inside; few = t.few }))

  whole_taken : Taken (length S) (first_places g) 0 (walk g S)
  whole_taken = walk_taken (length S) (first_places g) 0

  size : length (cells_of g (walk g S)) ≡ length (walk g S)
  size = length_cells g (first_places g) (walk g S)

  -- as many picks as cells: each cell is picked
  full : length (walk g S) ≡ length S → Lawful g (length S) (walk g S) × SameItems S (cells_of g (walk g S))
  full e = (
    (e, whole_taken.lawful),
    λ x. (all_of g (cells_of g (walk g S)) S (cells_differ g (first_places g) 0 (walk g S) (first_differ g) whole_taken.lawful) whole_taken.inside (omega (arith, size)) x, whole_taken.inside x),
  )

  -- ---- the walk of a connected S
  -- C are the cells picked so far: the start is on the list, and so are the neighbours of C, and the cells of S before place i are in C
  record Done (P : List X) (i : ℕ) (C : List X) : Type 0 where
    started : In g.start P
    fed : (y : X) → In y C → (z : X) → In z (g.near y) → g.above z ≡ true → In z P
    seen : (k : ℕ) → k < i → k < length P → In (cell_at g P k) S → In (cell_at g P k) C

  -- where no cell of S is left on the list, all of S is picked
  all_reached : (P C : List X)
      → ((x : X) → In x S → (x ≡ g.start) ⊎ (g.above x ≡ true))
      → In g.start P
      → ((y : X) → In y C → (z : X) → In z (g.near y) → g.above z ≡ true → In z P)
      → ((x : X) → In x P → In x S → In x C)
      → (x : X)
      → Reached g.near g.start S x
      → In x C
  all_reached P C ab st fd cl x (at_start e m) = cl x (in_cast P (sym e) st) m
  all_reached P C ab st fd cl y (onward {x = x} r a m) =
      cl y (⊎_elim (λ e. in_cast P (sym e) st) (λ h. fd x (all_reached P C ab st fd cl x r) y a h) (ab y m)) m

  done_pick : (P : List X) (i : ℕ) (C : List X) → i < length P → Done P i C → Done (after_pick g P i) (i + 1) (cell_at g P i ∷ C)
  done_pick P i C h d = record {
    started = begins_in P (after_pick g P i) g.start (pick_begins g P i) d.started;
    fed = λ y m z a u.
        ⊎_elim
        (λ e. put_all_has g P (g.near (cell_at g P i)) z (subst (λ w. In z (g.near w)) e a) u)
        (λ k. begins_in P (after_pick g P i) z (pick_begins g P i) (d.fed y k z a u))
        m;
    seen = λ k l b m. go k l m (cases_eq k i);
  }
    where
      go : (k : ℕ) → k < i + 1 → In (cell_at g (after_pick g P i) k) S → (k ≡ i) ⊎ (k ≡ i → ⊥) → In (cell_at g (after_pick g P i) k) (cell_at g P i ∷ C)
      go k l m (inl e) = inl (pick_cell g P i k (omega arith) ∙ ap (λ j. cell_at g P j) e)
      go k l m (inr n) =
          let b : k < length P = omega arith in
          let e = pick_cell g P i k b in
          inr (in_cast C (sym e) (d.seen k (omega arith) b (in_cast S e m)))

  done_pass : (P : List X) (i : ℕ) (C : List X) → (In (cell_at g P i) S → ⊥) → Done P i C → Done P (i + 1) C
  done_pass P i C n d = record {
    started = d.started;
    fed = d.fed;
    seen = λ k l b m. ⊎_elim (λ e. absurd (n (subst (λ j. In (cell_at g P j) S) e m))) (λ u. d.seen k (omega arith) b m) (cases_eq k i);
  }

  -- the picks w are as many as wanted, or with C they are all of S
  abbrev Whole : ℕ → List X → List X → List ℕ → Type 0
  Whole k P C w = (length w ≡ k) ⊎ ((x : X) → In x S → In x C ⊎ In x (cells_from g P w))

  whole_pick : (k : ℕ) (P : List X) (i : ℕ) (C : List X) (w : List ℕ) → Whole k (after_pick g P i) (cell_at g P i ∷ C) w → Whole (suc k) P C (i ∷ w)
  whole_pick k P i C w (inl e) = inl (ap suc e)
  whole_pick k P i C w (inr f) = inr (λ x m. ⊎_elim (⊎_elim (λ e. inr (inl e)) (λ u. inl u)) (λ u. inr (inr u)) (f x m))

  walk_whole : Rooted g S → Connected g.near g.start S → (k : ℕ) (P : List X) (i : ℕ) (C : List X) → Done P i C → Whole k P C (walk_from g S k P i)
  walk_whole root conn =
      by_places g S (λ k P i. (C : List X) → Done P i C → Whole k P C (walk_from g S k P i))
      (λ P i C d. inl refl)
      (λ k P i h C d. inr (λ x m. inl (all_reached P C root.others_above d.started d.fed (clear P i C h d) x (conn x m))))
      (λ k P i h m r C d. subst (Whole (suc k) P C) (sym (walk_picks g S k P i h m)) (whole_pick k P i C (walk_from g S k (after_pick g P i) (i + 1)) (r (cell_at g P i ∷ C) (done_pick P i C h d))))
      (λ k P i h n r C d. subst (Whole (suc k) P C) (sym (walk_passes g S (suc k) P i h n)) (r C (done_pass P i C n d)))
    where
      clear : (P : List X) (i : ℕ) (C : List X) → length P ≤ i → Done P i C → (x : X) → In x P → In x S → In x C
      clear P i C h d x a m =
          let (k, l, e) = get_or_from_in P x a in
          in_cast C (e g.start) (d.seen k (omega arith) l (in_cast S (sym (e g.start)) m))

  as_many : Rooted g S → Connected g.near g.start S → length (walk g S) ≡ length S
  as_many root conn = go (walk_whole root conn (length S) (first_places g) 0 [] (record { started = inl refl; fed = λ y m. absurd m; seen = λ k h. absurd (omega arith) }))
    where
      go : Whole (length S) (first_places g) [] (walk g S) → length (walk g S) ≡ length S
      go (inl e) = e
      go (inr f) = omega (arith, size, whole_taken.few, fewer g S (cells_of g (walk g S)) root.differ (λ x m. ⊎_elim (λ u. absurd u) (λ u. u) (f x m)))

  pub walk_complete : Rooted g S → Connected g.near g.start S → Lawful g (length S) (walk g S) × SameItems S (cells_of g (walk g S))
  walk_complete root conn = full (as_many root conn)

  -- ---- the pick list
  pub some_if : length (walk g S) ≡ length S → pick_list g S ≡ Some (walk g S)
  some_if e = cond-true (eqb (length (walk g S)) (length S)) (Some (walk g S)) None (eq-eqb (length (walk g S)) (length S) e)

  pub some_says : (p : List ℕ) → pick_list g S ≡ Some p → (walk g S ≡ p) × (length (walk g S) ≡ length S)
  some_says p h = go (eqb (length (walk g S)) (length S)) refl h
    where
      go : (b : Bool) → eqb (length (walk g S)) (length S) ≡ b → cond b (Some (walk g S)) None ≡ Some p → (walk g S ≡ p) × (length (walk g S) ≡ length S)
      go true e k = (cc, eqb-true (length (walk g S)) (length S) e)
      go false e k = let z : ◌≡◌ {A = ℕ} 0 1 = cc in absurd (omega arith)

  pub some_right : (p : List ℕ) → pick_list g S ≡ Some p → Lawful g (length S) p × SameItems S (cells_of g p)
  some_right p h = let t = some_says p h in subst (λ w. Lawful g (length S) w × SameItems S (cells_of g w)) t.0 (full t.1)

  pub some_connected : (p : List ℕ) → pick_list g S ≡ Some p → Connected g.near g.start S
  some_connected p h x m =
      let t = some_right p h in
      cells_reached g S (first_places g) 0 p (first_reached g S) t.0.1 (λ z n. (t.1 z).1 n) x ((t.1 x).0 m)

  pub right_some : (p : List ℕ) → Lawful g (length S) p × SameItems S (cells_of g p) → pick_list g S ≡ Some p
  right_some p t = let e = walk_back g (length S) p S t.0 t.1 in some_if (ap length e ∙ t.0.0) ∙ ap Some e

pub walks : {X : Type 0} → Walks X
walks g = record {
  sound = λ n p h l. (lawful_rooted g n p h l, lawful_connected g n p l, length_cells g (first_places g) p ∙ l.0);
  back = walk_back g;
  unique = picks_unique g;
  complete = walk_complete g;
  some_if = λ S root conn. some_if g S (as_many g S root conn);
  only_if = some_connected g;
  the_one = λ S p. (some_right g S p, right_some g S p);
}
