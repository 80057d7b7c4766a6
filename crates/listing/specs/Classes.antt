-- Classes of the connected shapes of one size, under the motions of an opening. Assumes nothing.
--     Belongs o s        s is a connected shape of the size
--     InClass o s t      t is in the class of s: its image under one motion of the set, in normal position
--     Least o s          no member of the class of s is less than s
--     exact o s          s as an entry, with its exact stabiliser and orbit size
--     picks o s          the picks of the walk of s: its pick list, if it is connected
--     Holds o es s       the class of one of the entries es holds s
use Rattle.std.specs.Prelude.{◌≡◌, ℕ, true, List, length, ◌≢◌}
use Rattle.ordered.specs.Members.{In}
use Rattle.lattice.specs.declared.cell.Cell.{Cell}
use Rattle.lattice.specs.Cells.{origin}
use Rattle.shapes.specs.Classes.{cells_less, MemberOf}
use Rattle.shapes.specs.Connected.{Connected}
use Rattle.shapes.specs.Entries.{EntryValues, entry_for}
use Rattle.shapes.specs.Positions.{neighbours, NormalPosition}
use Rattle.walk.specs.CellsAround.{cells_around}
use Rattle.walk.specs.Walks.{walk}
use Rattle.listing.specs.Openings.{Opening}

pub record Belongs (o : Opening) (s : List Cell) : Type 0 where
  pub position : NormalPosition s
  pub connected : Connected (neighbours o.directions) origin s
  pub size : length s ≡ o.size

abbrev pub InClass : Opening → List Cell → List Cell → Type 0
InClass o s t = MemberOf o.motions o.set s t

abbrev pub Least : Opening → List Cell → Type 0
Least o s = (t : List Cell) → InClass o s t → cells_less t s ≢ true

abbrev pub exact : Opening → List Cell → EntryValues
exact o s = entry_for o.motions o.set s

abbrev pub picks : Opening → List Cell → List ℕ
picks o s = walk (cells_around o.directions) s

abbrev pub Holds : Opening → List EntryValues → List Cell → Type 0
Holds o es s = (e : EntryValues) × In e es × InClass o e.cells s
