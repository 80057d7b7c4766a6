-- What a trail stands for, and what the steps of a search do to it, ds being its directions. Assumes nothing.
--     ways t              its directions
--     picks_made t        the picks made
--     shown_picks t       the pick list found last, if there is one
--     shown_cells t       the cells that it picks
--     rest ds t           the pick lists still to list
--     whole_list ds t     all pick lists of its size
--     effort ds t         what every step makes less
--     Sound ds t          the place list is that of the picks made, the lengths are its earlier ones, and the cells are those picked
--     Started d n t       its directions are d, nothing is picked, and all pick lists of n picks are to list
--     Turned ds t u       from t to u nothing is listed, and the effort is less
--     Found ds t u        u shows the first of the pick lists that t has to list, and has the others to list
--     Through ds t u      t has none to list, and u neither
--     Sought ds t u b     found if b, through if not
use Rattle.std.specs.Prelude.{◌≡◌, ℕ, ◌<◌, Bool, true, false, List, [], ◌∷◌, length, take, slice_index}
use Rattle.lattice.specs.declared.cell.Cell.{Cell}
use Rattle.walk.specs.declared.direction_list.DirectionList.{DirectionList}
use Rattle.walk.specs.declared.trail.Trail.{Trail}
use Rattle.walk.specs.CellsAround.{cells_around}
use Rattle.walk.specs.PlaceLists.{place_cells, directions_in}
use Rattle.walk.specs.Places.{first_places, places_of, cells_of}
use Rattle.walk.specs.Listings.{all_picks}
use Rattle.walk.specs.Steps.{todo, measure}

abbrev pub ways : Trail → List Cell
ways t = directions_in t.directions

abbrev pub picks_made : Trail → List ℕ
picks_made t = take t.depth t.picks

abbrev pub shown_picks : Trail → List ℕ
shown_picks t = take t.shown t.picks

abbrev pub shown_cells : Trail → List Cell
shown_cells t = take t.shown t.cells

abbrev pub rest : List Cell → Trail → List (List ℕ)
rest ds t = todo (cells_around ds) t.size (first_places (cells_around ds)) (picks_made t) t.next

abbrev pub whole_list : List Cell → Trail → List (List ℕ)
whole_list ds t = all_picks (cells_around ds) t.size

abbrev pub effort : List Cell → Trail → ℕ
effort ds t = measure (cells_around ds) t.size (first_places (cells_around ds)) (picks_made t) t.next

pub record Sound (ds : List Cell) (t : Trail) : Type 0 where
  pub places_are : place_cells t.places ≡ places_of (cells_around ds) (picks_made t)
  pub lengths_are : (k : ℕ) → k < t.depth → slice_index t.lengths k ≡ length (places_of (cells_around ds) (take k t.picks))
  pub picks_low : (k : ℕ) → k < t.depth → slice_index t.picks k < 512
  pub cells_are : take t.depth t.cells ≡ cells_of (cells_around ds) (picks_made t)
  pub shown_are : shown_cells t ≡ cells_of (cells_around ds) (shown_picks t)

pub record Started (d : DirectionList) (n : ℕ) (t : Trail) : Type 0 where
  pub sound : Sound (ways t) t
  pub same_directions : t.directions ≡ d
  pub size_is : t.size ≡ n
  pub all : rest (ways t) t ≡ all_picks (cells_around (ways t)) n
  pub none_shown : t.shown ≡ 0

pub record Turned (ds : List Cell) (t u : Trail) : Type 0 where
  pub sound : Sound ds u
  pub same_directions : u.directions ≡ t.directions
  pub same_size : u.size ≡ t.size
  pub same_rest : rest ds u ≡ rest ds t
  pub less : effort ds u < effort ds t
  pub none_shown : u.shown ≡ 0

pub record Found (ds : List Cell) (t u : Trail) : Type 0 where
  pub sound : Sound ds u
  pub same_directions : u.directions ≡ t.directions
  pub same_size : u.size ≡ t.size
  pub first_shown : rest ds t ≡ shown_picks u ∷ rest ds u

pub record Through (ds : List Cell) (t u : Trail) : Type 0 where
  pub sound : Sound ds u
  pub same_directions : u.directions ≡ t.directions
  pub same_size : u.size ≡ t.size
  pub none_before : rest ds t ≡ []
  pub none_after : rest ds u ≡ []
  pub none_shown : u.shown ≡ 0

abbrev pub Sought : List Cell → Trail → Trail → Bool → Type 0
Sought ds t u true = Found ds t u
Sought ds t u false = Through ds t u
