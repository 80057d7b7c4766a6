use Rattle.std.proofs.Common.{◌∙◌}
use Rattle.walk.specs.PlaceLists.{place_cells}
use Rattle.walk.proofs.Around.{on_any}
use Rattle.walk.proofs.place_list.PlaceList.contains.Goals as goal

pub returns : goal.returns
returns c ds = c.contains.ensures.value ∙ on_any ds (place_cells c.args.self.now) c.args.x
