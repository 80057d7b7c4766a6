-- All lawful pick lists of a length, in ascending order. Assumes nothing.
--     branches f c q          the lists that begin with one of the c places from q on, in their order, and go on as f says
--     picks_from g n P i      all ways to make n more picks from the place list P, of places from i on
--     all_picks g n           all lawful pick lists of n picks
--     Listed g n P i          picks_from has just the lawful ones, ascending, and so each once
--     PicksListed X           so it is in every neighbourhood of cells X
--     Enumerated g n ps       ps gives the connected sets of n cells, each once
--     PicksEnumerated X       all_picks does so in every neighbourhood of cells X
use Rattle.std.specs.Prelude.{◌≡◌, ℕ, zero, suc, ◌+◌, ◌-◌, ◌≤◌, ◌↔◌, List, [], ◌∷◌, ◌++◌, map, length, nat_lt}
use Rattle.ordered.specs.Members.{In, NoRepeats}
use Rattle.ordered.specs.Orders.{Ascending, list_less}
use Rattle.shapes.specs.Connected.{Connected}
use Rattle.walk.specs.Neighbourhoods.{Neighbourhood, Rooted, SameItems}
use Rattle.walk.specs.Places.{after_pick, first_places, cells_of}
use Rattle.walk.specs.Lawful.{LawfulFrom}

abbrev pub branches : (ℕ → List (List ℕ)) → ℕ → ℕ → List (List ℕ)
branches f zero q = []
branches f (suc c) q = map (λ r. q ∷ r) (f q) ++ branches f c (q + 1)

abbrev pub picks_from : {X : Type 0} → Neighbourhood X → ℕ → List X → ℕ → List (List ℕ)
picks_from g zero P i = [] ∷ []
picks_from g (suc n) P i = branches (λ q. picks_from g n (after_pick g P q) (q + 1)) (length P - i) i

abbrev pub all_picks : {X : Type 0} → Neighbourhood X → ℕ → List (List ℕ)
all_picks g n = picks_from g n (first_places g) 0

pub record Listed {X : Type 0} (g : Neighbourhood X) (n : ℕ) (P : List X) (i : ℕ) : Type 0 where
  pub lawful : (p : List ℕ) → In p (picks_from g n P i) ↔ LawfulFrom g n P i p
  pub ascends : Ascending (list_less nat_lt) (picks_from g n P i)
  pub differ : NoRepeats (picks_from g n P i)

abbrev pub PicksListed : Type 0 → Type 0
PicksListed X = (g : Neighbourhood X) (n : ℕ) (P : List X) (i : ℕ) → Listed g n P i

pub record Enumerated {X : Type 0} (g : Neighbourhood X) (n : ℕ) (ps : List (List ℕ)) : Type 0 where
  -- the cells of each list are connected, n different cells, the start and others above it
  pub sound : (p : List ℕ) → In p ps → Rooted g (cells_of g p) × Connected g.near g.start (cells_of g p) × (length (cells_of g p) ≡ n)
  -- such cells are the cells of one of the lists, and of one only
  pub whole : (S : List X) → Rooted g S → Connected g.near g.start S → length S ≡ n → (p : List ℕ) × In p ps × SameItems S (cells_of g p)
  pub unique : (p r : List ℕ) → In p ps → In r ps → SameItems (cells_of g p) (cells_of g r) → p ≡ r
  -- no list comes twice
  pub differ : NoRepeats ps

abbrev pub PicksEnumerated : Type 0 → Type 0
PicksEnumerated X = (g : Neighbourhood X) (n : ℕ) → 1 ≤ n → Enumerated g n (all_picks g n)
