use Rattle.examples.proofs.Worked.{examples}
use Rattle.examples.proofs.worked_examples_hold.Goals as goal

pub returns : goal.returns
returns c = examples
