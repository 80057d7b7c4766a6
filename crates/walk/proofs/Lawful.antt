-- Lawful pick lists in plain words, and where the cells picked stand.
use Rattle.std.proofs.Common.{◌≡◌, ℕ, zero, suc, ◌+◌, ◌<◌, ◌≤◌, ltb, List, [], ◌∷◌, ◌++◌, map, length, get_or, take, sym, refl, ap, ap₂, inl, inr, ⊎_elim, arith}
use Rattle.std.proofs.lemmas.Bool.{ltb-true, lt-ltb}
use Rattle.ordered.specs.Members.{In}
use Rattle.ordered.specs.Orders.{Ascending}
use Rattle.walk.specs.Neighbourhoods.{Neighbourhood, Begins}
use Rattle.walk.specs.Places.{cell_at, after_pick, first_places, places_from, cells_from}
use Rattle.walk.specs.Lawful.{InTurn, Lawful, Plain, LawfulLists}
use Rattle.walk.proofs.Lists.{begins_refl, begins_trans, begins_get_or}
use Rattle.walk.proofs.Places.{places_begins}

module _ {X : Type 0} (g : Neighbourhood X) where
  -- ---- by numbers
  turn_above : (P : List X) (i : ℕ) (p : List ℕ) → InTurn g P i p → (q : ℕ) → In q p → i ≤ q
  turn_above P i [] l q m = absurd m
  turn_above P i (r ∷ p) l q (inl e) = omega (arith, l.0)
  turn_above P i (r ∷ p) l q (inr m) = omega (arith, l.0, turn_above (after_pick g P r) (r + 1) p l.2 q m)

  turn_ascends : (P : List X) (i : ℕ) (p : List ℕ) → InTurn g P i p → Ascending ltb p
  turn_ascends P i [] l = tt
  turn_ascends P i (q ∷ p) l = (
    λ r m. lt-ltb q r (omega (arith, turn_above (after_pick g P q) (q + 1) p l.2 r m)),
    turn_ascends (after_pick g P q) (q + 1) p l.2,
  )

  turn_listed : (P : List X) (i : ℕ) (p : List ℕ) → InTurn g P i p → (k : ℕ) → k < length p → get_or p k 0 < length (places_from g P (take k p))
  turn_listed P i [] l k h = absurd (omega arith)
  turn_listed P i (q ∷ p) l zero h = l.1
  turn_listed P i (q ∷ p) l (suc k) h = turn_listed (after_pick g P q) (q + 1) p l.2 k (omega arith)

  turn_from : (P : List X) (i : ℕ) (p : List ℕ)
      → ((q : ℕ) → In q p → i ≤ q)
      → Ascending ltb p
      → ((k : ℕ) → k < length p → get_or p k 0 < length (places_from g P (take k p)))
      → InTurn g P i p
  turn_from P i [] b a l = tt
  turn_from P i (q ∷ p) b a l = (
    b q (inl refl),
    l 0 (omega arith),
    turn_from (after_pick g P q) (q + 1) p (λ r m. omega (arith, ltb-true q r (a.0 r m))) a.1 (λ k h. l (suc k) (omega arith)),
  )

  first_0 : (p : List ℕ) → InTurn g (first_places g) 0 p → get_or p 0 0 ≡ 0
  first_0 [] l = refl
  first_0 (q ∷ p) l = omega (arith, l.1)

  to_plain : (n : ℕ) (p : List ℕ) → Lawful g n p → Plain g n p
  to_plain n p l = record {
    as_many = l.0;
    from_0 = first_0 p l.1;
    ascends = turn_ascends (first_places g) 0 p l.1;
    listed = turn_listed (first_places g) 0 p l.1;
  }

  from_plain : (n : ℕ) (p : List ℕ) → Plain g n p → Lawful g n p
  from_plain n p t = (t.as_many, turn_from (first_places g) 0 p (λ q m. omega arith) t.ascends t.listed)

  -- ---- one more pick
  abbrev Fits : List X → ℕ → List ℕ → ℕ → Type 0
  Fits P i p q = InTurn g P i p × (i ≤ q) × ((r : ℕ) → In r p → r < q) × (q < length (places_from g P p))

  push_says : (P : List X) (i : ℕ) (p : List ℕ) (q : ℕ) → InTurn g P i (p ++ q ∷ []) → Fits P i p q
  push_says P i [] q l = (tt, l.0, λ r m. absurd m, l.1)
  push_says P i (s ∷ p) q l =
      let t = push_says (after_pick g P s) (s + 1) p q l.2 in
      ((l.0, l.1, t.0), omega (arith, l.0, t.1), λ r. ⊎_elim (λ e. omega (arith, t.1)) (t.2 r), t.3)

  pub push_turn : (P : List X) (i : ℕ) (p : List ℕ) (q : ℕ) → Fits P i p q → InTurn g P i (p ++ q ∷ [])
  push_turn P i [] q t = (t.1, t.3, tt)
  push_turn P i (s ∷ p) q t =
      let h : s < q = t.2 s (inl refl) in
      (t.0.0, t.0.1, push_turn (after_pick g P s) (s + 1) p q (t.0.2, omega arith, λ r m. t.2 r (inr m), t.3))

  -- ---- cells
  pub cells_on : (P : List X) (i : ℕ) (p : List ℕ) (q : ℕ) (R : List X) → InTurn g P i (p ++ q ∷ []) → Begins (places_from g P p) R → cells_from g P (p ++ q ∷ []) ≡ map (cell_at g R) (p ++ q ∷ [])
  cells_on P i [] q R l b = ap {B = List X} (λ x. x ∷ []) (sym (begins_get_or P R q g.start b l.1))
  cells_on P i (r ∷ p) q R l b =
      ap₂ {C = List X} (λ x xs. x ∷ xs)
      (sym (begins_get_or P R r g.start (begins_trans P (places_from g P (r ∷ p)) R (places_begins g P (r ∷ p)) b) l.1))
      (cells_on (after_pick g P r) (r + 1) p q R l.2 b)

pub lawful_lists : {X : Type 0} → LawfulLists X
lawful_lists g = record {
  plain = λ n p. (to_plain g n p, from_plain g n p);
  one_more = λ P i p q. (push_says g P i p q, push_turn g P i p q);
  cells_stay = λ P i p q l. cells_on g P i p q (places_from g P p) l (begins_refl (places_from g P p));
}
