use Rattle.std.proofs.Common.{arith}
use Rattle.std.proofs.lemmas.Bool.Decides.{nat_tests}
use Rattle.lattices.proofs.Counts.{plane_count}
use Rattle.lattices.proofs.plane.is_turn.Goals as goal

pub returns : goal.returns
returns g c =
    let t = g.T.Turning in
    rw (g.met.T.Turning.motions_are, plane_count t.turn t.CIRCLE) (grind (arith, nat_tests))
