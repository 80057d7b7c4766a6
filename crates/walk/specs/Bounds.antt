-- How long place lists get, and how far a walk goes, where no cell has more than m neighbours. Assumes nothing.
--     FewNear m g       no cell has more than m neighbours
--     Bound m g         the bounds
--     Bounds X          they hold in every neighbourhood of cells X
use Rattle.std.specs.Prelude.{ℕ, ◌+◌, ◌-◌, ◌*◌, ◌<◌, ◌≤◌, List, length}
use Rattle.ordered.specs.Members.{In}
use Rattle.walk.specs.Neighbourhoods.{Neighbourhood}
use Rattle.walk.specs.Places.{places_of}
use Rattle.walk.specs.Lawful.{Lawful}
use Rattle.walk.specs.Walks.{walk}

abbrev pub FewNear : {X : Type 0} → ℕ → Neighbourhood X → Type 0
FewNear {X} m g = (x : X) → length (g.near x) ≤ m

pub record Bound {X : Type 0} (m : ℕ) (g : Neighbourhood X) : Type 0 where
  -- after n picks the place list has at most 1 + m · n cells
  pub places : (p : List ℕ) → length (places_of g p) ≤ 1 + m * length p
  -- the places of a lawful pick list of n picks are among the first 1 + m · (n − 1)
  pub picks : (n : ℕ) (p : List ℕ) → Lawful g n p → (q : ℕ) → In q p → q < 1 + m * (n - 1)
  -- the walk of n cells picks none but these, so the walk of connected cells is over when it has looked at as many places
  pub walks : (S : List X) (q : ℕ) → In q (walk g S) → q < 1 + m * (length S - 1)

abbrev pub Bounds : Type 0 → Type 0
Bounds X = (m : ℕ) (g : Neighbourhood X) → FewNear m g → Bound m g
