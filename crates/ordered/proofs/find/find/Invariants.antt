use Rattle.std.proofs.Common.{◌≡◌, drop}
use Rattle.ordered.specs.Lookups.{lookup}
use Rattle.ordered.proofs.Lookups.{shifted}
use Rattle.ordered.proofs.find.find.Given as goal

abbrev pub invariant-loop-i : goal.invariant-loop-i
invariant-loop-i g l = lookup g.T.TotalOrder.less l.x l.xs ≡ shifted l.i (lookup g.T.TotalOrder.less l.x (drop l.i l.xs))
