-- Sources: what they have behind and ahead, and what a next does. Assumes nothing.
--     Standing              where a source stands: the entries behind; the conditions of the sieves that it is made of, the topmost first; and
--                           the entries that the lowest source, the one below all of them, has ahead. A source that is no sieve has no
--                           conditions, and is the lowest itself
--     sift ps es            the entries of es that pass every one of the conditions ps, in their order
--     ahead s               the entries ahead: those of the lowest source that pass every condition
--     standing b a          b are behind and a ahead, with no sieve
--     sieved p s            what a sieve with the condition p makes of s: of both lists, the entries that pass
--     Stepped s e r t f     one next leads from s to t, and the caller's entry from e to f, and answers r
use Rattle.std.specs.Prelude.{◌≡◌, Bool, List, [], ◌∷◌, ◌++◌, Ok, Err, filter, Result}
use Rattle.lattice.specs.declared.refusal.Refusal.{Refusal}
use Rattle.lattice.specs.Refusals.{refusal_number}
use Rattle.shapes.specs.declared.entry.Entry.{Entry}
use Rattle.shapes.specs.Entries.{EntryValues, entry_values}

pub record Standing : Type 0 where
  pub behind : List EntryValues
  pub conditions : List (EntryValues → Bool)
  pub lowest : List EntryValues

abbrev pub sift : List (EntryValues → Bool) → List EntryValues → List EntryValues
sift [] es = es
sift (p ∷ ps) es = filter p (sift ps es)

abbrev pub ahead : Standing → List EntryValues
ahead s = sift s.conditions s.lowest

abbrev pub standing : List EntryValues → List EntryValues → Standing
standing b a = record { behind = b; conditions = []; lowest = a }

abbrev pub sieved : (EntryValues → Bool) → Standing → Standing
sieved p s = record { behind = filter p s.behind; conditions = p ∷ s.conditions; lowest = s.lowest }

-- with entries ahead, the first is written and moves to the end of behind
pub record Gave (s t : Standing) (x : EntryValues) : Type 0 where
  pub first : ahead s ≡ x ∷ ahead t
  pub moved : t.behind ≡ s.behind ++ x ∷ []
  pub same_conditions : t.conditions ≡ s.conditions

-- with none, the refusal is 6, the entry and both lists stay, and the lowest source is through
pub record Ended (s t : Standing) (why : Refusal) (e f : Entry) : Type 0 where
  pub none : ahead s ≡ []
  pub six : refusal_number why ≡ 6
  pub same_entry : f ≡ e
  pub same_behind : t.behind ≡ s.behind
  pub same_ahead : ahead t ≡ ahead s
  pub same_conditions : t.conditions ≡ s.conditions
  pub through : t.lowest ≡ []

abbrev pub Stepped : Standing → Entry → Result (Unit {0}) Refusal → Standing → Entry → Type 0
Stepped s e (Ok u) t f = Gave s t (entry_values f)
Stepped s e (Err why) t f = Ended s t why e f
