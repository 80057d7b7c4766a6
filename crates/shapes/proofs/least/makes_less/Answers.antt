use Rattle.std.proofs.Common.{ℕ, ◌&&◌, ltb, length, sym, ap, ◌∙◌}
use Rattle.shapes.specs.Classes.{cells_less, moved}
use Rattle.shapes.specs.Shapes.{shape_cells}
use Rattle.shapes.proofs.Members.{still_not_less}
use Rattle.shapes.proofs.ShapeFacts.{shape_position}
use Rattle.shapes.proofs.least.makes_less.Goals as goal

pub returns-then-motion-eq0 : goal.returns-then-motion-eq0
returns-then-motion-eq0 g c =
    let l = c.args.lattice.now in
    let ms = g.L.Lattice.motions l in
    let s = shape_cells c.args.shape.now in
    sym (ap (λ (k : ℕ). ltb k (length ms) && cells_less (moved ms k s) s) c.if-motion-eq0.true ∙ still_not_less (g.L.Lattice.rules l) s (shape_position c.args.shape.now))
