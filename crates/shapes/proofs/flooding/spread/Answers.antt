use Rattle.std.proofs.Common.{◌<◌, Bool, List, length, get_or, take, sym, ap, subst, arith, length-take}
use Rattle.std.proofs.ByRecursion.{All-get_or}
use Rattle.ordered.specs.Items.{items_of}
use Rattle.ordered.proofs.Kept.{length_kept_le}
use Rattle.ordered.proofs.Rooms.{has_room}
use Rattle.lattice.specs.declared.cell.Cell.{Cell}
use Rattle.lattice.specs.Cells.{origin, Within}
use Rattle.shapes.specs.Floods.{touches, same_cell}
use Rattle.shapes.specs.Members.{placement_cells}
use Rattle.shapes.specs.Positions.{neighbours}
use Rattle.shapes.specs.Shapes.{shape_cells}
use Rattle.shapes.proofs.ShapeFacts.{shape_few, shape_within}
use Rattle.shapes.proofs.flooding.spread.Goals as goal

-- fewer cells are kept than were passed
pub unwrap-requires : goal.unwrap-requires
unwrap-requires g c =
    let s = shape_cells c.args.shape.now in
    let i = c.loop-y.y-index in
    let t : Cell → Bool = touches same_cell (neighbours (g.L.Lattice.directions c.args.lattice.now)) (placement_cells c.args.reached.now) in
    let l : i < length s = omega (arith, ap length c.cells-y-items.ensures) in
    has_room 16 (items_of c.loop-y.cells) c.push.result c.push.ensures.value (omega (arith, ap length c.loop-y.invariant, length_kept_le t (take i s), length-take i s, shape_few c.args.shape.now))

pub touches-requires : goal.touches-requires
touches-requires g c =
    let s = shape_cells c.args.shape.now in
    let i : c.loop-y.y-index < length s = omega (arith, ap length c.cells-y-items.ensures) in
    record {
      near = c.requires.near;
      y_near = subst (λ (xs : List Cell). Within 15 (get_or xs c.loop-y.y-index origin)) (sym c.cells-y-items.ensures) (All-get_or (Within 15) s c.loop-y.y-index origin i (shape_within c.args.shape.now));
    }
