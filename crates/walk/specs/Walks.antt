-- The walk of a list of cells S, and its pick list. The places are taken in turn from 0. If the cell at a place belongs to S, the place is
-- picked, and its neighbours go on the place list. The walk ends when all cells are picked, or at the end of the place list. Assumes nothing.
--     look g S f xs i           the cells xs stand at the places from i on, which are taken in turn: if a cell belongs to S, its place is picked,
--                               and f says how the walk goes on; if not, the next place is looked at
--     walk_from g S k P i       the picks of the walk from place i on, if P is the place list and k cells are still to pick
--     walk g S                  the picks of the whole walk
--     pick_list g S             the picks, if they are as many as the cells of S; none otherwise
--     Turn g S                  what the walk does at a place
--     Turns X                   so it is in every neighbourhood of cells X
--     Walked g                  the lawful pick lists are those of the connected sets: each set has one, and it is the walk's
--     Walks X                   so it is in every neighbourhood of cells X
use Rattle.std.specs.Prelude.{◌≡◌, ℕ, zero, suc, ◌+◌, ◌<◌, ◌≤◌, true, false, cond, ◌↔◌, List, [], ◌∷◌, length, drop, Some, None, Option, ◌==◌}
use Rattle.ordered.specs.Members.{In}
use Rattle.shapes.specs.Connected.{Connected}
use Rattle.walk.specs.Neighbourhoods.{Neighbourhood, on, Rooted, SameItems}
use Rattle.walk.specs.Places.{cell_at, after_pick, cells_of, first_places}
use Rattle.walk.specs.Lawful.{Lawful}

abbrev pub look : {X : Type 0} → Neighbourhood X → List X → (ℕ → List ℕ) → List X → ℕ → List ℕ
look g S f [] i = []
look g S f (x ∷ xs) i = elim (on g S x) [ true ↦ i ∷ f i | false ↦ look g S f xs (i + 1) ]

abbrev pub walk_from : {X : Type 0} → Neighbourhood X → List X → ℕ → List X → ℕ → List ℕ
walk_from g S zero P i = []
walk_from g S (suc k) P i = look g S (λ q. walk_from g S k (after_pick g P q) (q + 1)) (drop i P) i

abbrev pub walk : {X : Type 0} → Neighbourhood X → List X → List ℕ
walk g S = walk_from g S (length S) (first_places g) 0

abbrev pub pick_list : {X : Type 0} → Neighbourhood X → List X → Option (List ℕ)
pick_list g S = cond (length (walk g S) == length S) (Some (walk g S)) None

pub record Turn {X : Type 0} (g : Neighbourhood X) (S : List X) : Type 0 where
  -- a place whose cell is in S is picked, and its neighbours go on the list
  pub picks : (k : ℕ) (P : List X) (i : ℕ) → i < length P → In (cell_at g P i) S → walk_from g S (suc k) P i ≡ i ∷ walk_from g S k (after_pick g P i) (i + 1)
  -- any other place is passed
  pub passes : (k : ℕ) (P : List X) (i : ℕ) → i < length P → (In (cell_at g P i) S → ⊥) → walk_from g S k P i ≡ walk_from g S k P (i + 1)
  -- the walk is over when all cells are picked, and at the end of the place list
  pub all_picked : (P : List X) (i : ℕ) → walk_from g S 0 P i ≡ []
  pub no_more_places : (k : ℕ) (P : List X) (i : ℕ) → length P ≤ i → walk_from g S k P i ≡ []

abbrev pub Turns : Type 0 → Type 0
Turns X = (g : Neighbourhood X) (S : List X) → Turn g S

pub record Walked {X : Type 0} (g : Neighbourhood X) : Type 0 where
  -- the cells of a lawful pick list are connected, all different, the start and others above it
  pub sound : (n : ℕ) (p : List ℕ) → 1 ≤ n → Lawful g n p → Rooted g (cells_of g p) × Connected g.near g.start (cells_of g p) × (length (cells_of g p) ≡ n)
  -- the walk of the cells of a lawful pick list gives it back, whatever list has them
  pub back : (n : ℕ) (p : List ℕ) (S : List X) → Lawful g n p → SameItems S (cells_of g p) → walk g S ≡ p
  -- lawful pick lists with the same cells are the same
  pub unique : (m n : ℕ) (p r : List ℕ) → Lawful g m p → Lawful g n r → SameItems (cells_of g p) (cells_of g r) → p ≡ r
  -- the walk of connected cells picks them all
  pub complete : (S : List X) → Rooted g S → Connected g.near g.start S → Lawful g (length S) (walk g S) × SameItems S (cells_of g (walk g S))
  -- there is a pick list exactly if the cells are connected, and it is the one lawful list with these cells
  pub some_if : (S : List X) → Rooted g S → Connected g.near g.start S → pick_list g S ≡ Some (walk g S)
  pub only_if : (S : List X) (p : List ℕ) → pick_list g S ≡ Some p → Connected g.near g.start S
  pub the_one : (S : List X) (p : List ℕ) → pick_list g S ≡ Some p ↔ (Lawful g (length S) p × SameItems S (cells_of g p))

abbrev pub Walks : Type 0 → Type 0
Walks X = (g : Neighbourhood X) → Walked g
