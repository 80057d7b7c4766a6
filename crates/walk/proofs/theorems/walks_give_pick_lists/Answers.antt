use Rattle.walk.proofs.Bounds.{bounds}
use Rattle.walk.proofs.Complete.{walks}
use Rattle.walk.proofs.Turns.{turns}
use Rattle.walk.proofs.theorems.walks_give_pick_lists.Goals as goal

pub returns : goal.returns
returns g c = record { in_turn = turns; right = walks; bounded = bounds }
