use Rattle.std.proofs.Common.{◌≡◌, suc, ◌+◌, ◌≤◌, ◌∷◌, ◌++◌, map, length, take, sym, ap, ◌∙◌, arith, length-append, rules}
use Rattle.catalogue.specs.Writers.{behind, led}
use Rattle.catalogue.proofs.Over.{behind_more}
use Rattle.catalogue.proofs.Texts.{led_more, led_room}
use Rattle.catalogue.proofs.lists.put_list.Goals as goal

pub put_behind-end-requires-in-loop-item : goal.put_behind-end-requires-in-loop-item
put_behind-end-requires-in-loop-item g c =
    let f = g.T.Item.text in
    let x = c.in-Some.first.now in
    let rest = c.in-Some.rest.now in
    let i = c.loop-item.item-index in
    let y = c.item-item.result in
    let is : c.args.items.now ≡ x ∷ rest = search rules in
    let so_far = ap (λ ys. length (led 9 (map f (take (suc i) ys)))) is in
    let all = ap (λ ys. length (led 9 (map f ys))) is in
    omega (arith, c.requires, c.loop-item.invariant.0, c.loop-item.auto.buffer, c.put_behind-end.auto.buffer, so_far, all, led_room f 9 x rest i y c.loop-item-test.true, ap (λ z. length (f z)) c.item-item.is)

pub loop-item-preserved : goal.loop-item-preserved
loop-item-preserved g c =
    let f = g.T.Item.text in
    let xs = c.args.buffer.now in
    let x = c.in-Some.first.now in
    let rest = c.in-Some.rest.now in
    let i = c.loop-item.item-index in
    let y = c.item-item.result in
    let k = c.loop-item.invariant in
    let is : c.args.items.now ≡ x ∷ rest = search rules in
    let so_far = led 9 (map f (take (suc i) c.args.items.now)) in
    let more : so_far ++ (32 ∷ f y) ≡ led 9 (map f (take (suc (i + 1)) c.args.items.now)) =
    ap (λ ys. led 9 (map f (take (suc i) ys)) ++ (32 ∷ f y)) is
    ∙ ap (λ z. led 9 (map f (x ∷ take i rest)) ++ (32 ∷ f z)) c.item-item.is
    ∙ sym (led_more f 9 x rest i y c.loop-item-test.true)
    ∙ ap (λ ys. led 9 (map f (take (suc (i + 1)) ys))) (sym is) in
    let new = c.put_behind-end-in-loop-item.ensures in
    let room : c.args.at ≤ length xs = omega (arith, c.requires) in (
      omega (arith, k.0, new.value, ap length more, length-append so_far (32 ∷ f y)),
      new.after ∙ ap (behind c.loop-item.end (32 ∷ f y)) k.1 ∙ behind_more c.args.at c.loop-item.end so_far (32 ∷ f y) xs room k.0 ∙ ap (λ bs. behind c.args.at bs xs) more,
    )
