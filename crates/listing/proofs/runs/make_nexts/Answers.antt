use Rattle.std.proofs.Common.{◌≡◌, ◌+◌, ◌<◌, List, [], ◌∷◌, ◌++◌, length, get_or, drop, replicate, vec_items, sym, ap, subst, arith, length-append}
use lib.ListN.{length-replicate}
use Rattle.std.proofs.lemmas.List.{drop_more}
use Rattle.listing.specs.declared.calls.Answer.{Answer}
use Rattle.listing.specs.declared.calls.Call.TheVariants.{Next}
use Rattle.listing.specs.Runs.{handed, NextRight}
use Rattle.sources.specs.Sources.{ahead}
use Rattle.listing.proofs.Moments.{SoFar, so_far_none, so_far_more, next_right, replied_ahead}
use Rattle.listing.proofs.runs.make_nexts.Goals as goal

pub loop-k-init : goal.loop-k-init
loop-k-init g c =
    let list = ahead (g.S.Source.stands c.args.source.now) in
    (ap length c.requires, so_far_none (λ past _ a. NextRight list past a) list (replicate c.args.nexts Next) (vec_items c.args.replies.now) c.requires)

pub loop-k-preserved : goal.loop-k-preserved
loop-k-preserved g c =
    let list = ahead (g.S.Source.stands c.args.source.now) in
    let cs = replicate c.args.nexts Next in
    let k = c.loop-k._k in
    let old = vec_items c.loop-k.replies in
    let s = g.S.Source.stands c.loop-k.source in
    let t = g.S.Source.stands c.one_next.new.source in
    let r = c.one_next.result in
    let i = c.loop-k.invariant in
    let grown : vec_items c.push.new.self ≡ old ++ r ∷ [] = c.in_ok-push.ensures.items in
    let h : length old < length cs = omega (arith, i.0, length-replicate c.args.nexts Next) in
    let step = c.one_next.ensures.step in
    let now = so_far_more (λ past _ a. NextRight list past a) list cs old (ahead s) i.1 r (ahead t) (replied_ahead s t r step) (get_or cs (length old) Next) (drop (length old + 1) cs) (drop_more cs (length old) Next h) (next_right s t list (handed old) i.1.left r step) in
    (omega (arith, ap length grown, length-append old (r ∷ []), i.0), subst (λ (xs : List Answer). SoFar (λ past _ a. NextRight list past a) list cs xs (ahead t)) (sym grown) now)
