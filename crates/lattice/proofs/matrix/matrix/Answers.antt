use Rattle.std.proofs.Common.{◌∙◌, rules}
use Rattle.lattice.specs.Rows.{matrix_under}
use Rattle.lattice.specs.Coordinates.{cell_same}
use Rattle.lattice.proofs.Columns.{under_a, under_b, under_c, by_columns}
use Rattle.lattice.proofs.Products.{matrix_same}
use Rattle.lattice.proofs.matrix.matrix.Goals as goal

pub returns : goal.returns
returns g c =
    let ms = g.L.Lattice.motions c.args.lattice.now in
    let m = c.args.motion in
    let x = c.image-x.result in
    let y = c.image-y.result in
    let z = c.image-z.result in
    by_columns (matrix_under ms m) x y z (c.image-x.ensures ∙ under_a ms m) (c.image-y.ensures ∙ under_b ms m) (c.image-z.ensures ∙ under_c ms m) _
    (matrix_same _ _
    (cell_same _ _ (search rules) (search rules) (search rules))
    (cell_same _ _ (search rules) (search rules) (search rules))
    (cell_same _ _ (search rules) (search rules) (search rules)))
