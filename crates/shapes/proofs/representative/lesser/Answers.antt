use Rattle.std.proofs.Common.{◌≡◌, true, Ok, Err, Result, List, sym, ap, ◌∙◌}
use Rattle.std.specs.Ordering.{is_lt}
use Rattle.std.specs.Result.{result_unwrap_or}
use Rattle.std.proofs.lemmas.Bool.{cond-true}
use Rattle.lattice.specs.declared.cell.Cell.{Cell}
use Rattle.shapes.specs.declared.shape.Shape.{Shape}
use Rattle.shapes.specs.declared.shape_fault.ShapeFault.{ShapeFault}
use Rattle.shapes.specs.Classes.{cells_less, moved}
use Rattle.shapes.specs.Faults.{unless, shape_or_fault}
use Rattle.shapes.specs.Shapes.{shape_cells, made}
use Rattle.shapes.proofs.Representatives.{moved_no_fault}
use Rattle.shapes.proofs.ShapeFacts.{shape_position, shape_some, shape_few}
use Rattle.shapes.proofs.representative.lesser.Goals as goal

made_of : (r : Result Shape ShapeFault) (d : Shape) (t : List Cell) → made r ≡ Ok t → shape_cells (result_unwrap_or r d) ≡ t
made_of (Ok s) d t e = cc
made_of (Err f) d t e = cc

pub returns : goal.returns
returns g c =
    let L = g.L.Lattice in
    let x = c.args.lattice.now in
    let shape = c.args.shape.now in
    let t = moved (L.motions x) c.args.motion (shape_cells shape) in
    let none = moved_no_fault (L.rules x) c.args.motion c.requires.known (shape_cells shape) (shape_position shape) (shape_some shape) (shape_few shape) c.requires.joined in
    let member = c.member-placed.ensures.image c.requires.known in
    let less : cells_less t (shape_cells c.args.least) ≡ true =
    sym (c.if-not-is_lt.ensures ∙ ap is_lt c.compare.ensures.value ∙ ap (λ xs. cells_less xs c.cells-2.result.now) (c.cells.ensures.value ∙ member) ∙ ap (cells_less t) c.cells-2.ensures) in
    let all : made c.new.result ≡ Ok t = c.new.ensures ∙ ap shape_or_fault (c.cells-3.ensures.value ∙ member) ∙ ap (unless t) none in
    ap shape_cells c.unwrap_or.ensures ∙ made_of c.new.result c.args.least t all ∙ sym (cond-true (cells_less t (shape_cells c.args.least)) t (shape_cells c.args.least) less)
