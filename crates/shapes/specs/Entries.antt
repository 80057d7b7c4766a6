-- Entries: a least member with its stabiliser and its orbit size. Assumes nothing.
--     EntryValues                     the cells, the motions and the orbit size of an entry
--     entry_values e                  those of the entry e
--     entry_for ms gs s               the shape s with its stabiliser and its orbit size
--     entry_if_connected ds ms gs s   the entry of the class of s under those of the motions gs that ms has, if s is connected
use Rattle.std.specs.Prelude.{ℕ, List, Option}
use Rattle.std.specs.Option.{option_map}
use Rattle.lattice.specs.declared.cell.Cell.{Cell}
use Rattle.lattice.specs.Kinds.{set_motions}
use Rattle.lattice.specs.Matrices.{Matrix}
use Rattle.shapes.specs.declared.entry.Entry.{Entry}
use Rattle.shapes.specs.Classes.{stabiliser_of, orbit_size_of}
use Rattle.shapes.specs.Members.{usable}
use Rattle.shapes.specs.Representatives.{least_if_connected}
use Rattle.shapes.specs.Shapes.{shape_cells}

pub record EntryValues : Type 0 where
  pub cells : List Cell
  pub motions : List ℕ
  pub orbit_size : ℕ

abbrev pub values : List Cell → List ℕ → ℕ → EntryValues
values s gs n = record { cells = s; motions = gs; orbit_size = n }

abbrev pub entry_values : Entry → EntryValues
entry_values e = values (shape_cells e.shape) (set_motions e.stabiliser) e.orbit_size

abbrev pub entry_for : List Matrix → List ℕ → List Cell → EntryValues
entry_for ms gs s = values s (stabiliser_of ms gs s) (orbit_size_of ms gs s)

abbrev pub entry_if_connected : List Cell → List Matrix → List ℕ → List Cell → Option EntryValues
entry_if_connected ds ms gs s = option_map (entry_for ms (usable ms gs)) (least_if_connected ds ms gs s)
