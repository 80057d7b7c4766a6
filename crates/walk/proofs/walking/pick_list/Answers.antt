use Rattle.std.proofs.Common.{◌≡◌, true, ◌↔◌, eqb, ap, ◌∙◌, subst, ap₂}
use Rattle.lattice.specs.Cells.{origin}
use Rattle.shapes.specs.Connected.{Connected}
use Rattle.shapes.specs.Positions.{neighbours}
use Rattle.shapes.specs.Shapes.{shape_cells}
use Rattle.walk.specs.CellsAround.{cells_around}
use Rattle.walk.specs.PlaceLists.{pick_numbers, picked}
use Rattle.walk.specs.Walks.{walk, pick_list}
use Rattle.shapes.proofs.ShapeFacts.{shape_position}
use Rattle.walk.proofs.WalkTurns.{told_list, told_some, list_if_connected}
use Rattle.walk.proofs.walking.pick_list.Goals as goal

pub returns : goal.returns
returns g c =
    let ds = g.L.Lattice.directions c.args.lattice.now in
    let S = shape_cells c.args.shape.now in
    let l = c.walk-list.result in
    let r = c.then_some.result in
    let w : pick_numbers l ≡ walk (cells_around ds) S = c.walk-list.ensures ∙ ap₂ (λ es T. walk (cells_around es) T) c.of.ensures c.cells.ensures in
    let e : picked r ≡ pick_list (cells_around ds) S = ap picked c.then_some.ensures ∙ told_list ds S l _ w (ap₂ eqb c.len.ensures.value c.size.ensures) in
    record {
      value = e;
      connected = subst (λ b. (b ≡ true) ↔ Connected (neighbours ds) origin S) (told_some ds S r) (list_if_connected ds S (picked r) (shape_position c.args.shape.now) e);
    }
