-- Place lists. At first the start alone is on the list, at place 0. When a place is picked, the neighbours of its cell that are above the
-- start and not on the list yet go on its end, in their order. Assumes nothing.
--     put g P y               P with y on its end, if y is above the start and not on P yet
--     put_all g P ys          P with each of ys put on its end, in turn
--     spread g P x            P with the neighbours of x put on its end, in their order
--     cell_at g P q           the cell at place q
--     after_pick g P q        the place list after place q of P is picked
--     places_from g P p       the place list after the picks p, from the place list P on
--     cells_from g P p        the cells that these pick
--     first_places g          the place list of no picks
--     places_of g p           the place list after the picks p
--     cells_of g p            the cells picked
--     PlaceListLaws g         no place list repeats a cell, and it only grows at its end
--     PlaceListsLawful X      so it is in every neighbourhood of cells X
use Rattle.std.specs.Prelude.{◌≡◌, ℕ, cond, not, ◌&&◌, List, [], ◌∷◌, ◌++◌, length, take, filter, slice_index_or}
use Rattle.ordered.specs.Members.{NoRepeats}
use Rattle.walk.specs.Neighbourhoods.{Neighbourhood, on, Begins}

abbrev pub put : {X : Type 0} → Neighbourhood X → List X → X → List X
put g P y = cond (g.above y && not (on g P y)) (P ++ y ∷ []) P

abbrev pub put_all : {X : Type 0} → Neighbourhood X → List X → List X → List X
put_all g P [] = P
put_all g P (y ∷ ys) = put_all g (put g P y) ys

abbrev pub spread : {X : Type 0} → Neighbourhood X → List X → X → List X
spread g P x = put_all g P (g.near x)

abbrev pub cell_at : {X : Type 0} → Neighbourhood X → List X → ℕ → X
cell_at g P q = slice_index_or P q g.start

abbrev pub after_pick : {X : Type 0} → Neighbourhood X → List X → ℕ → List X
after_pick g P q = spread g P (cell_at g P q)

abbrev pub places_from : {X : Type 0} → Neighbourhood X → List X → List ℕ → List X
places_from g P [] = P
places_from g P (q ∷ p) = places_from g (after_pick g P q) p

abbrev pub cells_from : {X : Type 0} → Neighbourhood X → List X → List ℕ → List X
cells_from g P [] = []
cells_from g P (q ∷ p) = cell_at g P q ∷ cells_from g (after_pick g P q) p

abbrev pub first_places : {X : Type 0} → Neighbourhood X → List X
first_places g = g.start ∷ []

abbrev pub places_of : {X : Type 0} → Neighbourhood X → List ℕ → List X
places_of g p = places_from g (first_places g) p

abbrev pub cells_of : {X : Type 0} → Neighbourhood X → List ℕ → List X
cells_of g p = cells_from g (first_places g) p

pub record PlaceListLaws {X : Type 0} (g : Neighbourhood X) : Type 0 where
  -- no cell is on it twice
  pub differ : (p : List ℕ) → NoRepeats (places_of g p)
  -- it only grows at its end, so picks are taken back by cutting it to the length that it had
  pub grows : (P : List X) (p r : List ℕ) → Begins (places_from g P p) (places_from g P (p ++ r))
  pub cut_back : (P : List X) (p r : List ℕ) → take (length (places_from g P p)) (places_from g P (p ++ r)) ≡ places_from g P p
  pub one_more : (P : List X) (p : List ℕ) (q : ℕ) → places_from g P (p ++ q ∷ []) ≡ after_pick g (places_from g P p) q
  -- where no neighbour comes twice, the neighbours that are above the start and not on the list can go on at once
  pub at_once : (P : List X) (x : X) → NoRepeats (g.near x) → spread g P x ≡ P ++ filter (λ y. g.above y && not (on g P y)) (g.near x)

abbrev pub PlaceListsLawful : Type 0 → Type 0
PlaceListsLawful X = (g : Neighbourhood X) → PlaceListLaws g
