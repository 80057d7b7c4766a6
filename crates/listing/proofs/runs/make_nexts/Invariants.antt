use Rattle.std.proofs.Common.{◌≡◌, length, replicate, vec_items}
use Rattle.listing.specs.declared.calls.Call.TheVariants.{Next}
use Rattle.listing.specs.Runs.{NextRight}
use Rattle.sources.specs.Sources.{ahead}
use Rattle.listing.proofs.Moments.{SoFar}
use Rattle.listing.proofs.runs.make_nexts.Given as goal

abbrev pub invariant-loop-k : goal.invariant-loop-k
invariant-loop-k g l =
    let list = ahead (g.S.Source.stands l.initial.source) in
    (length (vec_items l.replies) ≡ l._k)
    × SoFar (λ past _ a. NextRight list past a) list (replicate l.nexts Next) (vec_items l.replies) (ahead (g.S.Source.stands l.source))
