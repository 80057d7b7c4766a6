use Rattle.std.proofs.Common.{eqb, length, ap, ap₂, arith}
use Rattle.std.proofs.lemmas.Bool.Decides.{Decides-at}
use Rattle.shapes.specs.Floods.{connected}
use Rattle.shapes.specs.Shapes.{shape_cells}
use Rattle.shapes.proofs.Floods.{connected_decides}
use Rattle.shapes.proofs.flooding.is_connected.Goals as goal

pub returns : goal.returns
returns g c =
    let s = shape_cells c.args.shape.now in
    let ds = g.L.Lattice.directions c.args.lattice.now in
    let e = ap₂ eqb (omega (arith, ap length c.cells.ensures.value, ap length c.flood-reached.ensures)) c.size.ensures in
    record { value = e; exact = Decides-at _ (connected ds s) e (connected_decides ds s) }
