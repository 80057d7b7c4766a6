-- Where the class of a shape is, for an opening of which some entries are behind. Assumes nothing.
--     belongs o s                  the test that s, a shape, is connected and has the size
--     is_among o es s              the test that the class of s is that of one of the entries es
--     whereabouts_of o behind s    given if the class of s is behind, to come if it is not yet, foreign if s does not belong
use Rattle.std.specs.Prelude.{Bool, cond, ◌&&◌, List, length, ◌==◌}
use Rattle.lattice.specs.declared.cell.Cell.{Cell}
use Rattle.shapes.specs.Classes.{same_cells, least_member}
use Rattle.shapes.specs.Entries.{EntryValues}
use Rattle.shapes.specs.Floods.{some_pass, connected}
use Rattle.listing.specs.declared.whereabouts.Whereabouts.{Whereabouts}
use Rattle.listing.specs.declared.whereabouts.Whereabouts.TheVariants.{Given, ToCome, Foreign}
use Rattle.listing.specs.Openings.{Opening}

abbrev pub belongs : Opening → List Cell → Bool
belongs o s = length s == o.size && connected o.directions s

abbrev pub is_among : Opening → List EntryValues → List Cell → Bool
is_among o es s = some_pass (λ e. same_cells e.cells (least_member o.motions o.set s)) es

abbrev pub whereabouts_of : Opening → List EntryValues → List Cell → Whereabouts
whereabouts_of o behind s = cond (belongs o s) (cond (is_among o behind s) Given ToCome) Foreign
