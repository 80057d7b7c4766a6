use Rattle.std.proofs.Common.{sym, ap, ◌∙◌, arith}
use Rattle.std.proofs.lemmas.Bool.Decides.{nat_tests}
use Rattle.lattice.specs.Lattices.{image_under}
use Rattle.lattice.specs.Matrices.{image}
use Rattle.lattices.specs.Cubic.{signs, cubic_motions}
use Rattle.lattices.proofs.NearCells.{near_is}
use Rattle.lattices.proofs.Orders.{image_in}
use Rattle.lattices.proofs.Counts.{cubic_count}
use Rattle.lattices.proofs.cubic.CubicLattice.image.Goals as goal

pub returns-in-Some : goal.returns-in-Some
returns-in-Some c =
    c.negated.ensures
    ∙ ap (image (signs _)) c.ordered.ensures
    ∙ sym (image_in c.args.motion c.in-Some.x.cell (omega arith) c.in-Some.x.near)
    ∙ ap (image_under cubic_motions c.args.motion) (near_is c.args.cell c.new.result c.in-Some.x c.new.ensures c.in-Some.is)

pub returns-in_default : goal.returns-in_default
returns-in_default c = rw cubic_count (grind (arith, nat_tests))
