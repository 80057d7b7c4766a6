use Rattle.std.proofs.Common.{◌≡◌, ◌≤◌, [], length, vec_items}
use Rattle.shapes.specs.Classes.{ClassLaws}
use Rattle.listing.specs.Made.{listing}
use Rattle.listing.specs.Openings.{Opening}
use Rattle.listing.specs.Runs.{handed, Right}
use Rattle.sources.specs.Sources.{ahead, standing}
use Rattle.listing.proofs.Moments.{SoFar}
use Rattle.listing.proofs.runs.make_calls.Given as goal

abbrev pub invariant-loop-call : goal.invariant-loop-call
invariant-loop-call g l =
    (length (vec_items l.answers) ≡ l.call-index)
    × ((o : Opening) → g.T.Listing.opened l.initial.lister o → g.T.Source.stands l.initial.lister ≡ standing [] (listing o) → ClassLaws o.directions o.motions o.set → 1 ≤ o.size →
    g.T.Listing.opened l.lister o
    × SoFar (Right o (listing o)) (listing o) l.calls (vec_items l.answers) (ahead (g.T.Source.stands l.lister))
    × ((g.T.Source.stands l.lister).behind ≡ handed (vec_items l.answers)))
