-- Laws over whole runs: calls and their answers, and nothing else. Assumes nothing.
--     handed as                     the entries that the answers as handed out, in turn
--     RefusedBy n a                 the answer a is the refusal with the number n
--     NextRight list past a         after `past` was handed out of the list, a is the right answer to a next: the next entry of the list, or
--                                   the refusal 6, and this exactly if the list is through
--     ToldRight o list past s a     a is the right answer to the question where the class of s is: foreign exactly if no class of the list holds
--                                   s, given exactly if its class was handed out, to come exactly if it is in the list and was not
--     Right o list past c a         a is the right answer to the call c
--     Each Good past cs as          each answer of as is good for its call of cs, after what was handed out before it; past was before all of them
--     RightRun Good list cs as      so it is from the beginning of the list on, and what was handed out is a beginning of the list at every moment
--     ListedRun o cs as             the run is right for the one list of all classes of the opening o
--     RightNexts list n as          as are the answers to n nexts, or to the first of them, from the beginning of the list on
--     Stopped x r                   r ends a run for which the opening gave x: refused exactly if the opening is, by its number
use Rattle.std.specs.Prelude.{◌≡◌, ℕ, ◌↔◌, List, [], ◌∷◌, ◌++◌, take, replicate, Ok, Err, Result, ◌≢◌}
use Rattle.lattice.specs.declared.cell.Cell.{Cell}
use Rattle.lattice.specs.declared.refusal.Refusal.{Refusal}
use Rattle.lattice.specs.Refusals.{refusal_number}
use Rattle.shapes.specs.declared.entry.Entry.{Entry}
use Rattle.shapes.specs.Entries.{EntryValues, entry_values}
use Rattle.shapes.specs.Shapes.{shape_cells}
use Rattle.walk.specs.Neighbourhoods.{Begins}
use Rattle.listing.specs.declared.calls.Answer.{Answer}
use Rattle.listing.specs.declared.calls.Answer.TheVariants.{Handed, Refused, Told}
use Rattle.listing.specs.declared.calls.Call.{Call}
use Rattle.listing.specs.declared.calls.Call.TheVariants.{Next, Ask}
use Rattle.listing.specs.declared.calls.Stop.{Stop}
use Rattle.listing.specs.declared.calls.Stop.TheVariants.{Opening as NotOpened, Memory}
use Rattle.listing.specs.declared.whereabouts.Whereabouts.{Whereabouts}
use Rattle.listing.specs.declared.whereabouts.Whereabouts.TheVariants.{Given, ToCome, Foreign}
use Rattle.listing.specs.Openings.{Opening}
use Rattle.listing.specs.Classes.{Holds}
use Rattle.listing.specs.Listing.{TheList}

abbrev pub handed_by : Answer → List EntryValues
handed_by (Handed e) = entry_values e ∷ []
handed_by (Refused r) = []
handed_by (Told w) = []

abbrev pub handed : List Answer → List EntryValues
handed [] = []
handed (a ∷ rest) = handed_by a ++ handed rest

abbrev pub RefusedBy : ℕ → Answer → Type 0
RefusedBy n a = (r : Refusal) × (a ≡ Refused r) × (refusal_number r ≡ n)

pub record NextRight (list past : List EntryValues) (a : Answer) : Type 0 where
  pub through : RefusedBy 6 a ↔ (past ≡ list)
  pub onward : (past ≢ list) → (e : Entry) × (a ≡ Handed e) × Begins (past ++ entry_values e ∷ []) list

pub record ToldRight (o : Opening) (list past : List EntryValues) (s : List Cell) (a : Answer) : Type 0 where
  pub told : (w : Whereabouts) × (a ≡ Told w)
  pub foreign : (a ≡ Told Foreign) ↔ (Holds o list s → ⊥)
  pub given : (a ≡ Told Given) ↔ Holds o past s
  pub to_come : (a ≡ Told ToCome) ↔ (Holds o list s × (Holds o past s → ⊥))

abbrev pub Right : Opening → List EntryValues → List EntryValues → Call → Answer → Type 0
Right o list past Next a = NextRight list past a
Right o list past (Ask s) a = ToldRight o list past (shape_cells s) a

abbrev pub Each : (List EntryValues → Call → Answer → Type 0) → List EntryValues → List Call → List Answer → Type 0
Each Good past cs [] = Unit {0}
Each Good past [] (a ∷ rest) = ⊥
Each Good past (c ∷ cs) (a ∷ rest) = Good past c a × Each Good (past ++ handed_by a) cs rest

pub record RightRun (Good : List EntryValues → Call → Answer → Type 0) (list : List EntryValues) (calls : List Call) (answers : List Answer) : Type 0 where
  pub begins : (k : ℕ) → Begins (handed (take k answers)) list
  pub each : Each Good [] calls answers

pub record ListedRun (o : Opening) (calls : List Call) (answers : List Answer) : Type 0 where
  pub list : List EntryValues
  pub the_list : TheList o list
  pub right : RightRun (Right o list) list calls answers

abbrev pub RightNexts : List EntryValues → ℕ → List Answer → Type 0
RightNexts list n answers = RightRun (λ past _ a. NextRight list past a) list (replicate n Next) answers

abbrev pub Stopped : Result Opening ℕ → Result (Unit {0}) Stop → Type 0
Stopped (Ok o) (Ok u) = Unit {0}
Stopped (Ok o) (Err (NotOpened e)) = ⊥
Stopped (Ok o) (Err Memory) = Unit {0}
Stopped (Err n) (Ok u) = ⊥
Stopped (Err n) (Err (NotOpened e)) = refusal_number e ≡ n
Stopped (Err n) (Err Memory) = ⊥
