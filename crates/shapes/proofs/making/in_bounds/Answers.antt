use Rattle.std.proofs.Common.{◌≡◌, w8, to_z, of_z, ap, ◌∙◌, rules}
use Rattle.std.specs.Bool.{then_some}
use Rattle.lattice.specs.Cells.{cell}
use Rattle.lattice.specs.Coordinates.{cell_same}
use Rattle.shapes.specs.Shapes.{wide, if_in_reach}
use Rattle.shapes.proofs.making.in_bounds.Goals as goal

pub returns : goal.returns
returns c =
    let z = cell (to_z w8 (of_z w8 c.in_ok-ok.field-0)) (to_z w8 (of_z w8 c.in_ok-ok-2.field-0)) (to_z w8 (of_z w8 c.in_ok-ok-3.field-0)) in
    let e : z ≡ wide c.args.x = cell_same z (wide c.args.x) (search rules) (search rules) (search rules) in
    c.then_some.ensures ∙ ap (λ b. then_some b z) c.is_in_reach.ensures ∙ ap if_in_reach e
