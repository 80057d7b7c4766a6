use Rattle.std.proofs.Common.{sym}
use Rattle.lattices.proofs.Counts.{hex_count}
use Rattle.lattices.proofs.hex.HexLattice.motion_count.Goals as goal

pub returns : goal.returns
returns c = sym hex_count
