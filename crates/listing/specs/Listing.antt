-- The list of all classes of an opening, by its properties. Assumes nothing.
--     RightEntry o e       e is the least member of a class of connected shapes of the size, with its exact stabiliser and orbit size
--     by_picks o d e       the pick list of d comes before that of e
--     Lists o es           es has right entries and no others, a class for every connected shape of the size, ascending by pick list
--     TheList o es         es lists so; no other list does; no class comes twice; its classes hold the connected shapes of the size and no others
use Rattle.std.specs.Prelude.{◌≡◌, Bool, ◌↔◌, List, nat_lt}
use Rattle.ordered.specs.Members.{In}
use Rattle.ordered.specs.Orders.{Ascending, list_less}
use Rattle.lattice.specs.declared.cell.Cell.{Cell}
use Rattle.shapes.specs.Entries.{EntryValues}
use Rattle.listing.specs.Openings.{Opening}
use Rattle.listing.specs.Classes.{Belongs, InClass, Least, exact, picks, Holds}

pub record RightEntry (o : Opening) (e : EntryValues) : Type 0 where
  pub belongs : Belongs o e.cells
  pub least : Least o e.cells
  pub is_exact : e ≡ exact o e.cells

abbrev pub by_picks : Opening → EntryValues → EntryValues → Bool
by_picks o d e = list_less nat_lt (picks o d.cells) (picks o e.cells)

pub record Lists (o : Opening) (es : List EntryValues) : Type 0 where
  pub sound : (e : EntryValues) → In e es → RightEntry o e
  pub whole : (s : List Cell) → Belongs o s → Holds o es s
  pub ascending : Ascending (by_picks o) es

pub record TheList (o : Opening) (es : List EntryValues) : Type 0 where
  pub lists : Lists o es
  pub only : (fs : List EntryValues) → Lists o fs → fs ≡ es
  pub once : (d e : EntryValues) → In d es → In e es → InClass o d.cells e.cells → d ≡ e
  pub held : (s : List Cell) → Holds o es s ↔ Belongs o s
