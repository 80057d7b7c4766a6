-- Calls, answers and stops of a run in words. Assumes nothing.
--     whereabouts_text w    where a class is
--     call_text c           the call c, a shape by its cells
--     answer_text a         the answer a
--     stop_text e           why a run stopped
use Rattle.std.specs.Prelude.{ℕ, List, Some, Option, codes, decimal}
use Rattle.std.specs.Fmt.{◌++?◌}
use Rattle.lattice.specs.Refusals.{refusal_number}
use Rattle.lattice.specs.Kinds.{set_motions}
use Rattle.shapes.specs.Prints.{spaced, shape_text}
use Rattle.listing.specs.declared.calls.Answer.{Answer}
use Rattle.listing.specs.declared.calls.Answer.TheVariants.{Handed, Refused, Told}
use Rattle.listing.specs.declared.calls.Call.{Call}
use Rattle.listing.specs.declared.calls.Call.TheVariants.{Next, Ask}
use Rattle.listing.specs.declared.calls.Stop.{Stop}
use Rattle.listing.specs.declared.calls.Stop.TheVariants.{Opening, Memory}
use Rattle.listing.specs.declared.whereabouts.Whereabouts.{Whereabouts}
use Rattle.listing.specs.declared.whereabouts.Whereabouts.TheVariants.{Given, ToCome, Foreign}

abbrev pub whereabouts_text : Whereabouts → Option (List ℕ)
whereabouts_text Given = Some (codes "given")
whereabouts_text ToCome = Some (codes "to come")
whereabouts_text Foreign = Some (codes "foreign")

abbrev pub call_text : Call → Option (List ℕ)
call_text Next = Some (codes "next")
call_text (Ask s) = Some (codes "where is ") ++? shape_text s

abbrev pub answer_text : Answer → Option (List ℕ)
answer_text (Handed e) =
    shape_text e.shape ++? Some (codes ", stabiliser ") ++? spaced (λ g. Some (decimal g)) (set_motions e.stabiliser) ++? Some (codes ", orbit size ") ++? Some (decimal e.orbit_size)
answer_text (Refused e) = Some (codes "refused by ") ++? Some (decimal (refusal_number e))
answer_text (Told w) = whereabouts_text w

abbrev pub stop_text : Stop → Option (List ℕ)
stop_text (Opening e) = Some (codes "the lister was not opened")
stop_text Memory = Some (codes "there is no memory for one more answer")
