-- What a search says of itself, and what its functions do. Assumes nothing.
--     search_directions s     the directions of its lattice
--     search_size s           how many picks its lists have
--     left s                  the pick lists still to list
--     behind s                those listed before, of all pick lists of its size
--     shown s                 the pick list found last; empty if there is none
--     begun ds n              what there is to list for a search of n picks; refused by 1 if n is 0 or over 16
--     Fresh ds n s            the search s has all pick lists of n picks still to list, and shows none
--     Alike s t               the two have the same directions and size
--     Advanced s t b          if b, t shows the first of those that s has left, and has the others left; if not, there is none left
use Rattle.std.specs.Prelude.{◌≡◌, ℕ, Bool, true, false, cond, ◌&&◌, List, [], ◌∷◌, ◌++◌, Ok, Err, Result, nat_le}
use Rattle.lattice.specs.declared.cell.Cell.{Cell}
use Rattle.lattice.specs.declared.refusal.Refusal.{Refusal}
use Rattle.walk.specs.declared.search.Search.{Search}
use Rattle.walk.specs.CellsAround.{cells_around}
use Rattle.walk.specs.Lawful.{Lawful}
use Rattle.walk.specs.Listings.{all_picks}
use Rattle.walk.specs.Ends.{before}
use Rattle.walk.specs.Trails.{ways, shown_picks, rest, whole_list}

abbrev pub search_directions : Search → List Cell
search_directions s = ways s.trail

abbrev pub search_size : Search → ℕ
search_size s = s.trail.size

abbrev pub left : Search → List (List ℕ)
left s = rest (search_directions s) s.trail

abbrev pub behind : Search → List (List ℕ)
behind s = before (whole_list (search_directions s) s.trail) (left s)

abbrev pub shown : Search → List ℕ
shown s = shown_picks s.trail

abbrev pub begun : List Cell → ℕ → Result (List (List ℕ)) ℕ
begun ds n = cond (nat_le 1 n && nat_le n 16) (Ok (all_picks (cells_around ds) n)) (Err 1)

pub record Fresh (ds : List Cell) (n : ℕ) (s : Search) : Type 0 where
  pub directions_are : search_directions s ≡ ds
  pub size_is : search_size s ≡ n
  pub all_left : left s ≡ all_picks (cells_around ds) n
  pub none_behind : behind s ≡ []
  pub none_shown : shown s ≡ []

-- so it is, if there is a search
abbrev pub FreshIfMade : List Cell → ℕ → Result Search Refusal → Type 0
FreshIfMade ds n (Ok s) = Fresh ds n s
FreshIfMade ds n (Err e) = Unit {0}

pub record Alike (s t : Search) : Type 0 where
  pub same_directions : search_directions t ≡ search_directions s
  pub same_size : search_size t ≡ search_size s

pub record NextShown (s t : Search) : Type 0 where
  pub alike : Alike s t
  pub first_shown : left s ≡ shown t ∷ left t
  pub one_more_behind : behind t ≡ behind s ++ shown t ∷ []
  pub lawful : Lawful (cells_around (search_directions t)) (search_size t) (shown t)

pub record NoneLeft (s t : Search) : Type 0 where
  pub alike : Alike s t
  pub none_before : left s ≡ []
  pub none_after : left t ≡ []
  pub same_behind : behind t ≡ behind s
  pub none_shown : shown t ≡ []

abbrev pub Advanced : Search → Search → Bool → Type 0
Advanced s t true = NextShown s t
Advanced s t false = NoneLeft s t
