use Rattle.std.proofs.Common.{sym, ap, ◌∙◌, subst}
use Rattle.std.specs.List.{AllByRecursion}
use Rattle.lattice.specs.Cells.{Within}
use Rattle.shapes.specs.Positions.{shifted}
use Rattle.shapes.specs.Shapes.{shape_cells}
use Rattle.shapes.proofs.Members.{images_near, member_is_moved}
use Rattle.shapes.proofs.ShapeFacts.{shape_within}
use Rattle.shapes.proofs.images.member.Goals as goal

pub from_the_first-requires : goal.from_the_first-requires
from_the_first-requires g c =
    let l = c.args.lattice.now in
    subst (AllByRecursion (Within 45)) (sym c.images.ensures) (images_near (g.L.Lattice.rules l) c.args.motion (shape_cells c.args.shape.now))

pub returns : goal.returns
returns g c =
    let l = c.args.lattice.now in
    let s = c.args.shape.now in
    let e = c.from_the_first.ensures ∙ ap shifted c.images.ensures in
    record { value = e; image = λ h. e ∙ member_is_moved (g.L.Lattice.motions l) c.args.motion (shape_cells s) h (shape_within s) }
