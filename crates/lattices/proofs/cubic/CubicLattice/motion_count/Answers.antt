use Rattle.std.proofs.Common.{sym}
use Rattle.lattices.proofs.Counts.{cubic_count}
use Rattle.lattices.proofs.cubic.CubicLattice.motion_count.Goals as goal

pub returns : goal.returns
returns c = sym cubic_count
