use Rattle.std.proofs.Common.{◌-◌}
use Rattle.ordered.specs.Items.{items_of}
use Rattle.walk.specs.PlaceLists.{place_cells, directions_in}
use Rattle.walk.proofs.WalkTurns.{Midway}
use Rattle.walk.proofs.walking.walk.Given as goal

abbrev pub invariant-loop-places : goal.invariant-loop-places
invariant-loop-places l = Midway (directions_in l.directions) l.wanted (place_cells l.places) (items_of l.picks) l.place

abbrev pub decreases-loop-places : goal.decreases-loop-places
decreases-loop-places l = 512 - l.place
