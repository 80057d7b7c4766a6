-- How the runs of a lister and of a pile end.
use Rattle.std.proofs.Common.{◌≡◌, ℕ, List, [], replicate}
use Rattle.shapes.specs.Entries.{EntryValues}
use Rattle.listing.specs.declared.calls.Answer.{Answer}
use Rattle.listing.specs.declared.calls.Call.TheVariants.{Next}
use Rattle.listing.specs.Runs.{NextRight, RightNexts}
use Rattle.listing.proofs.Moments.{so_far_none}

-- no next was made
pub no_nexts : (list : List EntryValues) (n : ℕ) (answers : List Answer) → answers ≡ [] → RightNexts list n answers
no_nexts list n answers e = (so_far_none (λ past _ a. NextRight list past a) list (replicate n Next) answers e).run
