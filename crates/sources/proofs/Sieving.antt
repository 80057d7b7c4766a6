-- What a next of a source is to the sieve above it.
use Rattle.std.proofs.Common.{◌≡◌, Bool, filter}
use Rattle.shapes.specs.Entries.{EntryValues}
use Rattle.sources.specs.Sources.{Standing, ahead}

-- from s to t only entries that do not pass were handed out
pub record PassedOver (p : EntryValues → Bool) (s t : Standing) : Type 0 where
  pub same_behind : filter p t.behind ≡ filter p s.behind
  pub same_ahead : filter p (ahead t) ≡ filter p (ahead s)
  pub same_conditions : t.conditions ≡ s.conditions
