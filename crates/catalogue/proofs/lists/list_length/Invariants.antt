use Rattle.std.proofs.Common.{◌≡◌, ◌+◌, ◌*◌, ◌≤◌, length, drop}
use Rattle.std.specs.List.{sum_by}
use Rattle.catalogue.proofs.lists.list_length.Given as goal

abbrev pub invariant-loop-item : goal.invariant-loop-item
invariant-loop-item g l =
    let total = sum_by (λ x. length (g.T.Item.text x)) in
    (l.total + total (drop l.item-index l.items) ≡ l.item-index + total l.items) × (l.total ≤ 21 * l.item-index)
