use Rattle.std.proofs.Common.{◌≡◌, ◌/◌, ◌%◌, ◌*ℤ◌, sym, ap, ◌∙◌, arith, w8, to_z, of_z}
use Rattle.std.proofs.lemmas.Int.{ints}
use Rattle.lattice.specs.Coordinates.{cell_same, within_says}
use Rattle.lattices.specs.Cubic.{sign}
use Rattle.lattices.proofs.Orders.{signs_are}
use Rattle.lattices.proofs.cubic.negated.Goals as goal

pub returns : goal.returns
returns c =
    let near = within_says 15 c.args.x.cell c.args.x.near in
    let a : to_z w8 (of_z w8 c.signed.result) ≡ c.signed.result = omega (arith, ints) in
    let b : to_z w8 (of_z w8 c.signed-2.result) ≡ c.signed-2.result = omega (arith, ints) in
    let d : to_z w8 (of_z w8 c.signed-3.result) ≡ c.signed-3.result = omega (arith, ints) in
    let p : to_z w8 (of_z w8 c.args.x.cell.a) ≡ c.args.x.cell.a = omega (arith, ints) in
    let q : to_z w8 (of_z w8 c.args.x.cell.b) ≡ c.args.x.cell.b = omega (arith, ints) in
    let r : to_z w8 (of_z w8 c.args.x.cell.c) ≡ c.args.x.cell.c = omega (arith, ints) in
    cell_same _ _
    (a ∙ c.signed.ensures ∙ ap (λ z. sign (c.args.bits % 2) *ℤ z) p)
    (b ∙ c.signed-2.ensures ∙ ap (λ z. sign (c.args.bits / 2 % 2) *ℤ z) q)
    (d ∙ c.signed-3.ensures ∙ ap (λ z. sign (c.args.bits / 4 % 2) *ℤ z) r)
    ∙ sym (signs_are c.args.bits c.args.x.cell)
