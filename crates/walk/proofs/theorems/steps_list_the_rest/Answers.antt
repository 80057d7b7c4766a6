use Rattle.walk.proofs.Steps.{machines}
use Rattle.walk.proofs.theorems.steps_list_the_rest.Goals as goal

pub returns : goal.returns
returns g c = machines
