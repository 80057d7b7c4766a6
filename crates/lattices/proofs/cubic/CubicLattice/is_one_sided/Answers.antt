use Rattle.std.proofs.Common.{arith}
use Rattle.std.proofs.lemmas.Bool.Decides.{nat_tests}
use Rattle.lattices.specs.Cubic.{cubic_one_sided}
use Rattle.lattices.proofs.Counts.{cubic_count}
use Rattle.lattices.proofs.cubic.CubicLattice.is_one_sided.Goals as goal

pub returns-then-motion-lt-MOTIONS : goal.returns-then-motion-lt-MOTIONS
unfolding cubic_one_sided
returns-then-motion-lt-MOTIONS c = rw cubic_count (grind (arith, nat_tests))

pub returns-else-motion-lt-MOTIONS : goal.returns-else-motion-lt-MOTIONS
returns-else-motion-lt-MOTIONS c = rw cubic_count (grind (arith, nat_tests))
