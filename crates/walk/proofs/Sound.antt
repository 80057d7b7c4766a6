-- The cells of a lawful pick list: as many as the picks, all different, the start and others above it, connected.
use Rattle.std.proofs.Common.{◌≡◌, ℕ, zero, suc, ◌+◌, ◌<◌, ◌≤◌, true, ◌⊎◌, List, [], ◌∷◌, length, sym, refl, ap, inl, inr, ⊎_elim, arith}
use Rattle.ordered.specs.Members.{In, NoRepeats}
use Rattle.ordered.proofs.Members.{in_cast, in_get_or, no_repeats_place}
use Rattle.shapes.specs.Connected.{Reached, at_start, onward, Connected}
use Rattle.walk.specs.Neighbourhoods.{Neighbourhood, Rooted}
use Rattle.walk.specs.Places.{cell_at, after_pick, cells_from, cells_of, first_places}
use Rattle.walk.specs.Lawful.{InTurn, Lawful}
use Rattle.walk.proofs.Lists.{begins_get_or, begins_length}
use Rattle.walk.proofs.Places.{in_put_all, pick_begins, pick_differ, first_differ}

module _ {X : Type 0} (g : Neighbourhood X) where
  pub length_cells : (P : List X) (p : List ℕ) → length (cells_from g P p) ≡ length p
  length_cells P [] = refl
  length_cells P (q ∷ p) = ap suc (length_cells (after_pick g P q) p)

  -- a pick moves no cell, and takes none away
  pub pick_cell : (P : List X) (q k : ℕ) → k < length P → cell_at g (after_pick g P q) k ≡ cell_at g P k
  pick_cell P q k b = begins_get_or P (after_pick g P q) k g.start (pick_begins g P q) b

  pub pick_length : (P : List X) (q : ℕ) → length P ≤ length (after_pick g P q)
  pick_length P q = begins_length P (after_pick g P q) (pick_begins g P q)

  -- a cell before place i is not picked from there on
  pub not_later : (P : List X) (i k : ℕ) (p : List ℕ) → NoRepeats P → InTurn g P i p → k < i → k < length P → In (cell_at g P k) (cells_from g P p) → ⊥
  not_later P i k [] u l h b m = m
  not_later P i k (q ∷ p) u l h b (inl e) = omega (arith, l.0, no_repeats_place P k q g.start u b l.1 e)
  not_later P i k (q ∷ p) u l h b (inr m) =
      not_later (after_pick g P q) (q + 1) k p (pick_differ g P q u) l.2 (omega (arith, l.0)) (omega (arith, pick_length P q))
      (in_cast (cells_from g (after_pick g P q) p) (sym (pick_cell P q k b)) m)

  -- nor is one up to the place picked, after it is picked
  pub not_again : (P : List X) (i k q : ℕ) (p : List ℕ) → NoRepeats P → InTurn g P i (q ∷ p) → k ≤ q → In (cell_at g P k) (cells_from g (after_pick g P q) p) → ⊥
  not_again P i k q p u l h m =
      let b : k < length P = omega (arith, l.1) in
      not_later (after_pick g P q) (q + 1) k p (pick_differ g P q u) l.2 (omega arith) (omega (arith, pick_length P q))
      (in_cast (cells_from g (after_pick g P q) p) (sym (pick_cell P q k b)) m)

  pub cells_differ : (P : List X) (i : ℕ) (p : List ℕ) → NoRepeats P → InTurn g P i p → NoRepeats (cells_from g P p)
  cells_differ P i [] u l = tt
  cells_differ P i (q ∷ p) u l = (not_again P i q q p u l (omega arith), cells_differ (after_pick g P q) (q + 1) p (pick_differ g P q u) l.2)

  cells_above : (P : List X) (i : ℕ) (p : List ℕ)
      → ((x : X) → In x P → (x ≡ g.start) ⊎ (g.above x ≡ true))
      → InTurn g P i p
      → (x : X)
      → In x (cells_from g P p)
      → (x ≡ g.start) ⊎ (g.above x ≡ true)
  cells_above P i [] ok l x m = absurd m
  cells_above P i (q ∷ p) ok l x (inl e) = ok x (in_cast P (sym e) (in_get_or P q g.start l.1))
  cells_above P i (q ∷ p) ok l x (inr m) =
      cells_above (after_pick g P q) (q + 1) p (λ z h. ⊎_elim (ok z) (λ k. inr k.1) (in_put_all g P (g.near (cell_at g P q)) z h)) l.2 x m

  -- where the cells of S on the list are reached in S, so are the picked ones
  pub cells_reached : (S P : List X) (i : ℕ) (p : List ℕ)
      → ((x : X) → In x P → In x S → Reached g.near g.start S x)
      → InTurn g P i p
      → ((x : X) → In x (cells_from g P p) → In x S)
      → (x : X)
      → In x (cells_from g P p)
      → Reached g.near g.start S x
  cells_reached S P i [] ok l s x m = absurd m
  cells_reached S P i (q ∷ p) ok l s x (inl e) = ok x (in_cast P (sym e) (in_get_or P q g.start l.1)) (s x (inl e))
  cells_reached S P i (q ∷ p) ok l s x (inr m) = cells_reached S (after_pick g P q) (q + 1) p ok' l.2 (λ z h. s z (inr h)) x m
    where
      picked : Reached g.near g.start S (cell_at g P q)
      picked = ok (cell_at g P q) (in_get_or P q g.start l.1) (s (cell_at g P q) (inl refl))

      ok' : (z : X) → In z (after_pick g P q) → In z S → Reached g.near g.start S z
      ok' z h k = ⊎_elim (λ a. ok z a k) (λ a. onward picked a.0 k) (in_put_all g P (g.near (cell_at g P q)) z h)

  -- at first only the start is on the list
  pub first_reached : (S : List X) (x : X) → In x (first_places g) → In x S → Reached g.near g.start S x
  first_reached S x (inl e) h = at_start e h
  first_reached S x (inr m) h = absurd m

  start_first : (q : ℕ) → g.start ≡ cell_at g (first_places g) q
  start_first zero = refl
  start_first (suc q) = refl

  pub lawful_rooted : (n : ℕ) (p : List ℕ) → 1 ≤ n → Lawful g n p → Rooted g (cells_of g p)
  lawful_rooted n [] h l = absurd (omega (arith, l.0))
  lawful_rooted n (q ∷ p) h l = record {
    differ = cells_differ (first_places g) 0 (q ∷ p) (first_differ g) l.1;
    has_start = inl (start_first q);
    others_above = cells_above (first_places g) 0 (q ∷ p) (λ x m. ⊎_elim (λ e. inl e) (λ k. absurd k) m) l.1;
  }

  pub lawful_connected : (n : ℕ) (p : List ℕ) → Lawful g n p → Connected g.near g.start (cells_of g p)
  lawful_connected n p l = cells_reached (cells_of g p) (first_places g) 0 p (first_reached (cells_of g p)) l.1 (λ x m. m)
