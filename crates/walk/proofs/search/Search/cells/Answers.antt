use Rattle.std.proofs.Common.{◌≡◌, rules}
use Rattle.walk.specs.Trails.{ways, shown_cells, shown_picks}
use Rattle.walk.specs.CellsAround.{cells_around}
use Rattle.walk.specs.Places.{cells_of}
use Rattle.walk.proofs.Once.{sound_from}
use Rattle.walk.proofs.search.Search.cells.Goals as goal

pub returns : goal.returns
returns c =
    let s = c.args.self.now in
    let t = s.trail in
    let h : shown_cells t ≡ cells_of (cells_around (ways t)) (shown_picks t) = (sound_from (ways t) t s.sound).shown_are in
    search rules
