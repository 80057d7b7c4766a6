-- One call of a run, over where the source stands before and after: what the law of a run is proved from. Assumes nothing.
--     Replied s a t          a next leads from s to t, and its answer is a
--     Made n m r             r ends a run of n calls that was to have m: all were made, or memory ran out
--     Answered o s c a t     the call c leads from s to t, and its answer is a, for a lister that was opened by o
use Rattle.std.specs.Prelude.{◌≡◌, ℕ, [], Ok, Err, Result}
use Rattle.lattice.specs.Refusals.{refusal_number}
use Rattle.shapes.specs.Entries.{entry_values}
use Rattle.shapes.specs.Shapes.{shape_cells}
use Rattle.listing.specs.declared.calls.Answer.{Answer}
use Rattle.listing.specs.declared.calls.Answer.TheVariants.{Handed, Refused, Told}
use Rattle.listing.specs.declared.calls.Call.{Call}
use Rattle.listing.specs.declared.calls.Call.TheVariants.{Next, Ask}
use Rattle.listing.specs.declared.calls.Stop.{Stop}
use Rattle.listing.specs.declared.calls.Stop.TheVariants.{Memory}
use Rattle.listing.specs.Openings.{Opening}
use Rattle.sources.specs.Sources.{Standing, ahead, Gave}
use Rattle.listing.specs.Whereabouts.{whereabouts_of}

pub record EndedBy (s t : Standing) (six : ℕ) : Type 0 where
  pub none : ahead s ≡ []
  pub is_6 : six ≡ 6
  pub same_behind : t.behind ≡ s.behind
  pub same_ahead : ahead t ≡ ahead s

abbrev pub Replied : Standing → Answer → Standing → Type 0
Replied s (Handed e) t = Gave s t (entry_values e)
Replied s (Refused r) t = EndedBy s t (refusal_number r)
Replied s (Told w) t = ⊥

abbrev pub Answered : Opening → Standing → Call → Answer → Standing → Type 0
Answered o s Next a t = Replied s a t
Answered o s (Ask x) (Handed e) t = ⊥
Answered o s (Ask x) (Refused r) t = ⊥
Answered o s (Ask x) (Told w) t = (w ≡ whereabouts_of o s.behind (shape_cells x)) × (t ≡ s)

abbrev pub Made : ℕ → ℕ → Result (Unit {0}) Stop → Type 0
Made n m (Ok u) = n ≡ m
Made n m (Err e) = e ≡ Memory
