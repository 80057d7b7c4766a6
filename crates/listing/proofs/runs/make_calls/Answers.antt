use Rattle.std.proofs.Common.{◌≡◌, ◌<◌, List, [], ◌∷◌, ◌++◌, length, vec_items, sym, ap, ◌∙◌, subst, arith, length-append}
use Rattle.std.proofs.lemmas.List.{get_or_default}
use Rattle.shapes.specs.Entries.{EntryValues}
use Rattle.listing.specs.declared.calls.Answer.{Answer}
use Rattle.listing.specs.declared.calls.Call.TheVariants.{Next}
use Rattle.listing.specs.Made.{listing}
use Rattle.listing.specs.Runs.{handed, Right}
use Rattle.sources.specs.Sources.{ahead}
use Rattle.listing.proofs.Made.{listing_lists}
use Rattle.listing.proofs.Moments.{SoFar, so_far_none}
use Rattle.listing.proofs.Told.{call_more}
use Rattle.listing.proofs.runs.make_calls.Goals as goal

pub loop-call-init : goal.loop-call-init
loop-call-init g c =
    let cs = c.args.calls.now in
    let as' = vec_items c.args.answers.now in (
      ap length c.requires,
      λ o h e k n.
          (h, subst (λ (a : List EntryValues). SoFar (Right o (listing o)) (listing o) cs as' a) (sym (ap ahead e)) (so_far_none (Right o (listing o)) (listing o) cs as' c.requires), ap (λ s. s.behind) e ∙ sym (ap handed c.requires)),
    )

pub loop-call-preserved : goal.loop-call-preserved
loop-call-preserved g c =
    let cs = c.args.calls.now in
    let i = c.loop-call.invariant in
    let old = vec_items c.loop-call.answers in
    let s = g.T.Source.stands c.loop-call.lister in
    let t = g.T.Source.stands c.one_call.new.lister in
    let r = c.one_call.result in
    let lt : c.loop-call.call-index < length cs = omega arith in
    let grown : vec_items c.push.new.self ≡ old ++ r ∷ [] = c.in_ok-push.ensures.items in (
      omega (arith, ap length grown, length-append old (r ∷ []), i.0),
      λ o h e k n.
          let (still, f, b) = i.1 o h e k n in
          let x = c.one_call.ensures o still in
          let more = call_more o k (listing o) (listing_lists o n k) cs old s t f b c.loop-call.call-index i.0 lt c.call-item.result (get_or_default cs c.loop-call.call-index Next c.call-item.result lt ∙ sym c.call-item.is) r x.0 in
          (x.1, subst (λ (as' : List Answer). SoFar (Right o (listing o)) (listing o) cs as' (ahead t)) (sym grown) more.0, more.1 ∙ sym (ap handed grown)),
    )
