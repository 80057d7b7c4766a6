-- Lawful pick lists: they start with 0 and ascend, and each place is on the place list by its turn. Assumes nothing.
--     InTurn g P i p             the picks p ascend from place i on, and each place is on the list by its turn, from the place list P on
--     LawfulFrom g n P i p       p is n such picks
--     Lawful g n p               p is a lawful pick list of n picks
--     Plain g n p                p has n picks, starts with 0 and ascends, and each place is on the place list of the picks before it
--     LawfulList g               to be lawful is to be plain; when one more pick is lawful; the cells picked keep their places
--     LawfulLists X              so it is in every neighbourhood of cells X
use Rattle.std.specs.Prelude.{◌≡◌, ℕ, ◌+◌, ◌<◌, ◌≤◌, ◌↔◌, List, [], ◌∷◌, ◌++◌, map, length, take, nat_lt, slice_index, slice_index_or}
use Rattle.ordered.specs.Members.{In}
use Rattle.ordered.specs.Orders.{Ascending}
use Rattle.walk.specs.Neighbourhoods.{Neighbourhood}
use Rattle.walk.specs.Places.{cell_at, after_pick, first_places, places_from, places_of, cells_from}

abbrev pub InTurn : {X : Type 0} → Neighbourhood X → List X → ℕ → List ℕ → Type 0
InTurn g P i [] = Unit {0}
InTurn g P i (q ∷ p) = (i ≤ q) × (q < length P) × InTurn g (after_pick g P q) (q + 1) p

abbrev pub LawfulFrom : {X : Type 0} → Neighbourhood X → ℕ → List X → ℕ → List ℕ → Type 0
LawfulFrom g n P i p = (length p ≡ n) × InTurn g P i p

-- at first only place 0 is on the list, so the first pick is of place 0
abbrev pub Lawful : {X : Type 0} → Neighbourhood X → ℕ → List ℕ → Type 0
Lawful g n p = LawfulFrom g n (first_places g) 0 p

pub record Plain {X : Type 0} (g : Neighbourhood X) (n : ℕ) (p : List ℕ) : Type 0 where
  pub as_many : length p ≡ n
  pub from_0 : slice_index_or p 0 0 ≡ 0
  pub ascends : Ascending nat_lt p
  pub listed : (k : ℕ) → k < length p → slice_index p k < length (places_of g (take k p))

pub record LawfulList {X : Type 0} (g : Neighbourhood X) : Type 0 where
  pub plain : (n : ℕ) (p : List ℕ) → Lawful g n p ↔ Plain g n p
  -- one more pick is greater than those before it, and of a place on the list
  pub one_more : (P : List X) (i : ℕ) (p : List ℕ) (q : ℕ) → InTurn g P i (p ++ q ∷ []) ↔ (InTurn g P i p × (i ≤ q) × ((r : ℕ) → In r p → r < q) × (q < length (places_from g P p)))
  -- the cells picked stand at their places on the list before the last pick
  pub cells_stay : (P : List X) (i : ℕ) (p : List ℕ) (q : ℕ) → InTurn g P i (p ++ q ∷ []) → cells_from g P (p ++ q ∷ []) ≡ map (cell_at g (places_from g P p)) (p ++ q ∷ [])

abbrev pub LawfulLists : Type 0 → Type 0
LawfulLists X = (g : Neighbourhood X) → LawfulList g
