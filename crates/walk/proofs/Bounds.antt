-- How long place lists get, and how far a walk goes, where no cell has more than m neighbours.
use Rattle.std.proofs.Common.{ℕ, suc, ◌+◌, ◌-◌, ◌*◌, ◌<◌, ◌≤◌, not, ◌&&◌, List, [], ◌∷◌, ◌++◌, length, inl, inr, mul-le-mul_left, mul-suc, arith, length-append}
use Rattle.std.proofs.lemmas.Bool.{cond_both}
use Rattle.ordered.specs.Members.{In}
use Rattle.walk.specs.Neighbourhoods.{Neighbourhood, on}
use Rattle.walk.specs.Places.{put, put_all, cell_at, after_pick, places_from, first_places}
use Rattle.walk.specs.Lawful.{InTurn}
use Rattle.walk.specs.Walks.{walk}
use Rattle.walk.specs.Bounds.{FewNear, Bounds}
use Rattle.walk.proofs.Complete.{walk_taken}

module _ {X : Type 0} (g : Neighbourhood X) where
  pub length_put : (P : List X) (y : X) → length (put g P y) ≤ suc (length P)
  length_put P y = cond_both (g.above y && not (on g P y)) (P ++ y ∷ []) P (λ Q. length Q ≤ suc (length P)) (λ _. omega (arith, length-append P (y ∷ []))) (λ _. omega arith)

  pub length_put_all : (P ys : List X) → length (put_all g P ys) ≤ length P + length ys
  length_put_all P [] = omega arith
  length_put_all P (y ∷ ys) = omega (arith, length_put P y, length_put_all (put g P y) ys)

module _ {X : Type 0} (m : ℕ) (g : Neighbourhood X) (few : FewNear m g) where
  pub length_after : (P : List X) (q : ℕ) → length (after_pick g P q) ≤ length P + m
  length_after P q = omega (arith, length_put_all g P (g.near (cell_at g P q)), few (cell_at g P q))

  pub length_places : (P : List X) (p : List ℕ) → length (places_from g P p) ≤ length P + m * length p
  length_places P [] = omega arith
  length_places P (q ∷ p) = omega (arith, length_places (after_pick g P q) p, length_after P q, mul-suc m (length p))

  pub picks_below : (P : List X) (i r : ℕ) (p : List ℕ) → InTurn g P i (r ∷ p) → (q : ℕ) → In q (r ∷ p) → q < length P + m * length p
  picks_below P i r p l q (inl e) = omega (arith, l.1)
  picks_below P i r [] l q (inr h) = absurd h
  picks_below P i r (s ∷ p) l q (inr h) = omega (arith, picks_below (after_pick g P r) (r + 1) s p l.2 q h, length_after P r, mul-suc m (length p))

  within : (n : ℕ) (p : List ℕ) → length p ≤ n → InTurn g (first_places g) 0 p → (q : ℕ) → In q p → q < 1 + m * (n - 1)
  within n [] e l q h = absurd h
  within n (r ∷ p) e l q h =
      let short : length p ≤ n - 1 = omega arith in
      omega (arith, picks_below (first_places g) 0 r p l q h, mul-le-mul_left m short)

pub bounds : {X : Type 0} → Bounds X
bounds m g few = record {
  places = λ p. length_places m g few (first_places g) p;
  picks = λ n p l q h. within m g few n p (omega (arith, l.0)) l.1 q h;
  walks = λ S q h.
      let t = walk_taken g S (length S) (first_places g) 0 in
      within m g few (length S) (walk g S) t.few t.lawful q h;
}
