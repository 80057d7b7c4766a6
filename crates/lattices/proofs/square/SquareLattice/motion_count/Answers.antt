use Rattle.std.proofs.Common.{sym}
use Rattle.lattices.proofs.Counts.{square_count}
use Rattle.lattices.proofs.square.SquareLattice.motion_count.Goals as goal

pub returns : goal.returns
returns c = sym square_count
