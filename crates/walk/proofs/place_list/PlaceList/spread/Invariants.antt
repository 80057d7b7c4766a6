use Rattle.std.proofs.Common.{◌≡◌, ◌+◌, ◌≤◌, length, drop}
use Rattle.shapes.specs.Positions.{neighbours}
use Rattle.walk.specs.CellsAround.{cells_around}
use Rattle.walk.specs.PlaceLists.{place_cells, directions_in}
use Rattle.walk.specs.Places.{put_all}
use Rattle.walk.proofs.place_list.PlaceList.spread.Given as goal

abbrev pub invariant-loop-step : goal.invariant-loop-step
invariant-loop-step l =
    let ds = directions_in l.directions in
    let g = cells_around ds in
    (length (place_cells l.self) ≤ length (place_cells l.initial.self) + l.step-index)
    × (put_all g (place_cells l.self) (neighbours (drop l.step-index ds) l.from) ≡ put_all g (place_cells l.initial.self) (neighbours ds l.from))
