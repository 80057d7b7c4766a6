use Rattle.std.proofs.Common.{◌<◌, [], ◌∷◌, ◌++◌, map, length, sym, ap, ap₂, ◌∙◌, arith, length-take}
use lib.ListN.{length-map}
use Rattle.std.proofs.lemmas.Result.{err_from_is_err_and}
use Rattle.std.proofs.lemmas.List.{take_more, get_or-map}
use Rattle.ordered.specs.Items.{items_of}
use Rattle.ordered.proofs.Rooms.{pushed_behind}
use Rattle.lattice.specs.Cells.{origin}
use Rattle.shapes.specs.Faults.{unless}
use Rattle.shapes.proofs.ShapeFacts.{read_later, read_fault, fault_counted}
use Rattle.shapes.proofs.making.admit_all.Goals as goal

pub returns-in_err-cell : goal.returns-in_err-cell
returns-in_err-cell g c =
    let f = g.T.Locates.located in
    let xs = map f c.args.places.now in
    let long = length-map c.args.places.now f in
    let i = c.loop-place.place in
    let p = err_from_is_err_and c.from_residual.result c.from_residual.ensures.1 in
    let here = read_fault i c.loop-place.before xs _ (omega (arith, long)) (c.coordinates.ensures ∙ ap f c.index-places-place.is ∙ sym (get_or-map f c.args.places.now i c.index-places-place.result origin (omega arith))) _ c.in_err-cell.ensures in
    rw (p.1, p.2) (sym (ap (unless xs) (fault_counted xs (omega (arith, long)) (omega (arith, long)) ∙ sym c.loop-place.invariant.0 ∙ here)))

pub loop-place-preserved : goal.loop-place-preserved
loop-place-preserved g c =
    let f = g.T.Locates.located in
    let xs = map f c.args.places.now in
    let long = length-map c.args.places.now f in
    let l = c.loop-place in
    let i : l.place < length xs = omega (arith, long) in
    let room : length (items_of l.cells) < 16 = omega (arith, long, ap length l.invariant.1, length-take l.place xs) in
    let t = read_later l.place l.before xs _ i (c.coordinates.ensures ∙ ap f c.index-places-place.is ∙ sym (get_or-map f c.args.places.now l.place c.index-places-place.result origin (omega arith))) c.in_ok-cell.cell c.in_ok-cell.ensures in
    (t.1 ∙ l.invariant.0, c.push.ensures.after ∙ pushed_behind 16 c.in_ok-cell.cell (items_of l.cells) room ∙ ap₂ (λ ys y. ys ++ y ∷ []) l.invariant.1 t.0 ∙ sym (take_more xs l.place origin i))
