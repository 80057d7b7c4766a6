use Rattle.std.proofs.Common.{◌≡◌, ◌+◌, length}
use Rattle.std.specs.Slice.Iter.{iter_rest}
use Rattle.std.specs.Iterator.Adapters.{zip_first, zip_second}
use Rattle.ordered.specs.Orders.{comparison}
use Rattle.ordered.proofs.compare.compare.Given as goal

-- what is left decides, and as many are passed in both lists
abbrev pub invariant-loop-x : goal.invariant-loop-x
invariant-loop-x g l =
    (comparison g.T.TotalOrder.less l.xs l.ys ≡ comparison g.T.TotalOrder.less (iter_rest (zip_first l.x-iterator)) (iter_rest (zip_second l.x-iterator))) ×
    (length l.xs + length (iter_rest (zip_second l.x-iterator)) ≡ length l.ys + length (iter_rest (zip_first l.x-iterator)))
