use Rattle.std.proofs.Common.{◌≡◌, get_or, pos, ◌+ℤ◌, ◌-ℤ◌, sym, ap, ◌∙◌, ap₂, arith, w8, to_z, of_z}
use lib.Signed.{lt_z}
use Rattle.std.proofs.lemmas.Int.{ints, to_z-of_z}
use Rattle.lattice.specs.Cells.{origin}
use Rattle.shapes.specs.Shapes.{shape_cells}
use Rattle.sources.specs.Conditions.{greatest, least}
use Rattle.sources.proofs.Conditions.{best_more, greatest_more, best_all}
use Rattle.sources.proofs.bounding_box.extent.Goals as goal

pub loop-cell-preserved : goal.loop-cell-preserved
loop-cell-preserved g c f is =
    let s = c.cells-cells.result.now in
    let i = c.loop-cell.cell-index in
    let so_far = c.loop-cell.invariant f is in
    let x : to_z w8 (of_z w8 c.along-x.result) ≡ f (get_or s i origin) = to_z-of_z w8 c.along-x.result (record { sfits = c.along-x.type_inv }) ∙ is _ _ c.along-x.ensures in
    let low = to_z-of_z w8 c.min-least.result (record { sfits = c.min-least.type_inv }) ∙ c.min-least.ensures.value in
    let high = to_z-of_z w8 c.max-greatest.result (record { sfits = c.max-greatest.type_inv }) ∙ c.max-greatest.ensures.value in
    (best_more lt_z f s i origin _ _ _ (omega arith) x low ∙ so_far.0, greatest_more f s i origin _ _ _ (omega arith) x high ∙ so_far.1)

pub returns : goal.returns
returns g c f is =
    let s = c.cells-cells.result.now in
    let t = shape_cells c.args.shape.now in
    let i = c.loop-cell.cell-index in
    let all = c.loop-cell.invariant f is in
    let low : c.from-2.result ≡ least f t = c.from-2.ensures ∙ sym (best_all lt_z f s i _ (omega arith)) ∙ all.0 ∙ ap (least f) c.cells-cells.ensures in
    let high : c.from.result ≡ greatest f t = c.from.ensures ∙ sym (best_all (λ y z. lt_z z y) f s i _ (omega arith)) ∙ all.1 ∙ ap (greatest f) c.cells-cells.ensures in
    omega (arith, ints) ∙ ap₂ (λ y z. (y -ℤ z) +ℤ pos 1) high low
