use Rattle.std.proofs.Common.{◌≡◌, ◌∷◌, [], take, Some, Ok, sym, ap, ◌∙◌, subst, rules}
use Rattle.std.specs.Option.{IfSome}
use Rattle.std.specs.Fmt.{◌++?◌, DisplaysOnOk, HasWritten}
use Rattle.std.proofs.lemmas.List.{take_all}
use Rattle.shapes.specs.Prints.{behind_spaces, spaced}
use Rattle.shapes.proofs.Prints.{one_text_more, both_written, written, displayed}
use Rattle.shapes.proofs.shown.SpacedDisplay.fmt.Goals as goal

pub loop-item-preserved : goal.loop-item-preserved
loop-item-preserved g c plain =
    let took = g.W.Write.write_str_gives in
    let text = g.T.Display.output in
    let f = c.write.new.self in
    let h = c.write-in-loop-item.new.self in
    let rest = c.in-Some.rest.now in
    let i = c.loop-item.item-index in
    let x = c.item-item.result in
    let so_far = behind_spaces text (take i rest) in
    let e = one_text_more text rest i x c.loop-item-test.true ∙ ap (λ y. so_far ++? (Some (32 ∷ []) ++? text y)) (sym c.item-item.is) in
    subst (λ o. IfSome o (λ bs. HasWritten took f bs h)) (sym e) (both_written took f c.loop-item.f h so_far (Some (32 ∷ []) ++? text x) (c.loop-item.invariant plain) (λ p. written took c.loop-item.f h (Ok c.in_ok-write-2.field-0) _ c.in_ok-write-2.ensures.writes p (search rules)))

pub returns-clause-writes : goal.returns-clause-writes
returns-clause-writes g c =
    let took = g.W.Write.write_str_gives in
    let text = g.T.Display.output in
    let f = c.args.f.now in
    let x = c.in-Some.first.now in
    let rest = c.in-Some.rest.now in
    let all = take_all c.loop-item.item-index rest c.loop-item-test.false in
    let xs : c.args.self.now.0.now ≡ x ∷ rest = search rules in
    subst (λ ys. DisplaysOnOk took f (Ok tt) (spaced text ys) c.loop-item.f) (sym xs) (displayed took f c.loop-item.f (Ok tt) (spaced text (x ∷ rest)) (λ p. both_written took f c.write.new.self c.loop-item.f (text x) (behind_spaces text rest) (written took f c.write.new.self (Ok c.in_ok-write.field-0) (text x) c.in_ok-write.ensures.writes p (search rules)) (λ q. subst (λ ys. IfSome (behind_spaces text ys) (λ bs. HasWritten took c.write.new.self bs c.loop-item.f)) all (c.loop-item.invariant q))))
