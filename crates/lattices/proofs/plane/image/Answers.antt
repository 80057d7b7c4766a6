use Rattle.std.proofs.Common.{◌-◌, sym, ap, ◌∙◌, arith}
use Rattle.std.proofs.lemmas.Bool.Decides.{nat_tests}
use Rattle.lattice.specs.Matrices.{image}
use Rattle.lattice.specs.Lattices.{image_under}
use Rattle.lattices.proofs.NearCells.{near_is}
use Rattle.lattices.proofs.Turns.{image_turn, image_swap}
use Rattle.lattices.proofs.Counts.{plane_count}
use Rattle.lattices.specs.Plane.{turns, plane_motions}
use Rattle.lattices.proofs.plane.image.Goals as goal

pub returns-in-Some : goal.returns-in-Some
returns-in-Some g c =
    let t = g.T.Turning in
    rw g.met.T.Turning.motions_are
    (c.turned.ensures
    ∙ sym (image_turn t.turn t.CIRCLE c.args.motion c.in-Some.x.cell (omega arith) c.in-Some.x.near)
    ∙ ap (image_under (plane_motions t.turn t.CIRCLE) c.args.motion) (near_is c.args.cell c.new.result c.in-Some.x c.new.ensures c.in-Some.is))

pub returns-in-Some-2 : goal.returns-in-Some-2
returns-in-Some-2 g c =
    let t = g.T.Turning in
    rw g.met.T.Turning.motions_are
    (c.turned-in-Some-2.ensures
    ∙ ap (λ k. image (turns t.turn (c.args.motion - k)) c.swapped.result.cell) c.CIRCLE-circle.ensures
    ∙ ap (image (turns t.turn _)) c.swapped.ensures
    ∙ sym (image_swap t.turn t.CIRCLE c.args.motion c.in-Some-2.x.cell (omega arith) (omega arith) c.in-Some-2.x.near)
    ∙ ap (image_under (plane_motions t.turn t.CIRCLE) c.args.motion) (near_is c.args.cell c.new.result c.in-Some-2.x c.new.ensures c.in-Some-2.is))

pub returns-in_default : goal.returns-in_default
returns-in_default g c =
    let t = g.T.Turning in
    rw (g.met.T.Turning.motions_are, plane_count t.turn t.CIRCLE) (grind (arith, nat_tests))
