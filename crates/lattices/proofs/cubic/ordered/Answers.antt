use Rattle.std.proofs.Common.{suc, ◌-◌, ◌∙◌, arith}
use Rattle.std.proofs.lemmas.Int.{ints}
use Rattle.lattices.proofs.Orders.{in_order}
use Rattle.lattices.proofs.cubic.ordered.Goals.{in-0, in-1, in-2, in-3, in-4, in_default}
use Rattle.lattices.proofs.cubic.ordered.Goals as goal

pub returns : goal.returns
returns c =
    elim c.match-order.branch [
      | in-0 w ↦ w.cell-is ∙ in_order c.args.order 0 w.in-0.is c.args.x _ (λ near. (omega (arith, ints), omega (arith, ints), omega (arith, ints)))
      | in-1 w ↦ w.cell-is ∙ in_order c.args.order 1 w.in-1.is c.args.x _ (λ near. (omega (arith, ints), omega (arith, ints), omega (arith, ints)))
      | in-2 w ↦ w.cell-is ∙ in_order c.args.order 2 w.in-2.is c.args.x _ (λ near. (omega (arith, ints), omega (arith, ints), omega (arith, ints)))
      | in-3 w ↦ w.cell-is ∙ in_order c.args.order 3 w.in-3.is c.args.x _ (λ near. (omega (arith, ints), omega (arith, ints), omega (arith, ints)))
      | in-4 w ↦ w.cell-is ∙ in_order c.args.order 4 w.in-4.is c.args.x _ (λ near. (omega (arith, ints), omega (arith, ints), omega (arith, ints)))
      | in_default w ↦ w.cell-is ∙ in_order c.args.order (suc (suc (suc (suc (suc (c.args.order - 5)))))) (omega arith) c.args.x _ (λ near. (omega (arith, ints), omega (arith, ints), omega (arith, ints)))
    ]
