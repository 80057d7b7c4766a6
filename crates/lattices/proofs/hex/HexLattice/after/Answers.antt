use Rattle.lattice.proofs.Numbers.{in_turn}
use Rattle.lattices.specs.Lawful.{hex_rules}
use Rattle.lattices.proofs.hex.HexLattice.after.Goals as goal

pub returns-clause-in_turn : goal.returns-clause-in_turn
returns-clause-in_turn c = in_turn hex_rules c.args.g c.args.h _ c.after.ensures
