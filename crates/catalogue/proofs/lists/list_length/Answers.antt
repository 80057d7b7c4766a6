use Rattle.std.proofs.Common.{length, ap, arith}
use Rattle.std.specs.List.{sum_by}
use Rattle.std.proofs.lemmas.List.{drop_all}
use Rattle.catalogue.proofs.Texts.{length_led}
use Rattle.catalogue.proofs.lists.list_length.Goals as goal

pub returns-clause-value : goal.returns-clause-value
returns-clause-value g c =
    let f = g.T.Item.text in
    let xs = c.args.items.now in
    let all = ap (sum_by (λ x. length (f x))) (drop_all c.loop-item.item-index xs c.loop-item-test.false) in
    omega (arith, c.loop-item.invariant.0, all, length_led f 9 xs, c.loop-item.auto.item-index-end, c.loop-item-test.false)
