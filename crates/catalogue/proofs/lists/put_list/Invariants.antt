use Rattle.std.proofs.Common.{◌≡◌, suc, ◌+◌, map, length, take}
use Rattle.catalogue.specs.Writers.{behind, led}
use Rattle.catalogue.proofs.lists.put_list.Given as goal

abbrev pub invariant-loop-item : goal.invariant-loop-item
invariant-loop-item g l =
    let so_far = led 9 (map g.T.Item.text (take (suc l.item-index) l.items)) in
    (l.end ≡ l.at + length so_far) × (l.buffer ≡ behind l.at so_far l.fn.buffer)
