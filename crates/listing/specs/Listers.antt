-- What a lister means. Its lattice, of any type L, is known by its directions and motions. Assumes nothing.
--     listed_by motions s               the opening whose list it goes through: the directions and the size of its search, and the motions of its set
--     stands_of motions s               behind are the entries of the pick lists that its search has found, ahead those of the ones still to find
--     last_picks o es                   the pick list of the last of the entries es; empty if there is none
--     LastRight motions s               it holds the pick list of the last entry behind
--     Kept motions s t                  from s to t the lattice, the set, and the directions and size of the search have stayed
--     OpenedBy directions motions s o   it was opened by o: the search has the directions of its lattice, and the set is closed
use Rattle.std.specs.Prelude.{◌≡◌, ℕ, List, [], fold}
use Rattle.lattice.specs.declared.cell.Cell.{Cell}
use Rattle.lattice.specs.Kinds.{Closed, set_motions}
use Rattle.lattice.specs.Matrices.{Matrix}
use Rattle.shapes.specs.Entries.{EntryValues}
use Rattle.shapes.specs.Members.{usable}
use Rattle.walk.specs.PlaceLists.{pick_numbers}
use Rattle.walk.specs.Searches.{search_directions, search_size, left, behind, Alike}
use Rattle.listing.specs.declared.lister.Lister.{Lister}
use Rattle.listing.specs.Openings.{Opening, opening}
use Rattle.listing.specs.Classes.{picks}
use Rattle.sources.specs.Sources.{Standing, standing}
use Rattle.listing.specs.Made.{entries_of}

abbrev pub listed_by : {L : Type 0} → (L → List Matrix) → Lister L → Opening
listed_by motions s =
    opening (search_directions s.search) (motions s.lattice) (search_size s.search) (usable (motions s.lattice) (set_motions s.set))

abbrev pub stands_of : {L : Type 0} → (L → List Matrix) → Lister L → Standing
stands_of motions s = standing (entries_of (listed_by motions s) (behind s.search)) (entries_of (listed_by motions s) (left s.search))

abbrev pub last_picks : Opening → List EntryValues → List ℕ
last_picks o es = fold (λ _ e. picks o e.cells) [] es

abbrev pub LastRight : {L : Type 0} → (L → List Matrix) → Lister L → Type 0
LastRight motions s = pick_numbers s.last ≡ last_picks (listed_by motions s) (stands_of motions s).behind

pub record Kept {L : Type 0} (motions : L → List Matrix) (s t : Lister L) : Type 0 where
  pub same_lattice : t.lattice ≡ s.lattice
  pub same_set : t.set ≡ s.set
  pub alike : Alike s.search t.search
  pub last_stays : LastRight motions s → LastRight motions t

pub record OpenedBy {L : Type 0} (directions : L → List Cell) (motions : L → List Matrix) (s : Lister L) (o : Opening) : Type 0 where
  pub as_listed : listed_by motions s ≡ o
  pub directions_are : search_directions s.search ≡ directions s.lattice
  pub closed : Closed (motions s.lattice) (set_motions s.set)
  pub last_right : LastRight motions s
