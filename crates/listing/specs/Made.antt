-- The list of all classes as the walk makes it. Assumes nothing.
--     shape_of ds p       the shape that the pick list p picks, with the directions ds
--     is_least o s        the test that s is its own least member
--     entries_of o ps     of the shapes that the pick lists ps pick, those that are least, as entries
--     listing o           the entries of all lawful pick lists of the size
use Rattle.std.specs.Prelude.{ℕ, Bool, List, map, filter}
use Rattle.ordered.specs.Lookups.{sorted}
use Rattle.lattice.specs.declared.cell.Cell.{Cell}
use Rattle.lattice.specs.Cells.{cell_less}
use Rattle.shapes.specs.Classes.{same_cells, least_member}
use Rattle.shapes.specs.Entries.{EntryValues}
use Rattle.walk.specs.CellsAround.{cells_around}
use Rattle.walk.specs.Listings.{all_picks}
use Rattle.walk.specs.Places.{cells_of}
use Rattle.listing.specs.Openings.{Opening}
use Rattle.listing.specs.Classes.{exact}

abbrev pub shape_of : List Cell → List ℕ → List Cell
shape_of ds p = sorted cell_less (cells_of (cells_around ds) p)

abbrev pub is_least : Opening → List Cell → Bool
is_least o s = same_cells (least_member o.motions o.set s) s

abbrev pub entries_of : Opening → List (List ℕ) → List EntryValues
entries_of o ps = map (exact o) (filter (is_least o) (map (shape_of o.directions) ps))

unfoldable pub listing : Opening → List EntryValues
listing o = entries_of o (all_picks (cells_around o.directions) o.size)
