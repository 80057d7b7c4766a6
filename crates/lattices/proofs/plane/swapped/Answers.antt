use Rattle.std.proofs.Common.{sym, ◌∙◌, arith}
use Rattle.std.proofs.lemmas.Int.{ints}
use Rattle.lattice.specs.Coordinates.{cell_same, within_says}
use Rattle.lattices.proofs.Turns.{swap_is}
use Rattle.lattices.proofs.plane.swapped.Goals as goal

pub returns : goal.returns
returns c =
    let near = within_says 15 c.args.x.cell c.args.x.near in
    cell_same _ _ (omega (arith, ints)) (omega (arith, ints)) (omega (arith, ints)) ∙ sym (swap_is c.args.x.cell)
