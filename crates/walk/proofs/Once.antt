-- A trail is sound in one way only, so that the fact of the ghost field gives it back.
use Rattle.std.proofs.Common.{List}
use mathlib.Core.Logic.{∥∥₁_elim}
use native.Mathlib.Bridge.{le_prop}
use base.Stored.{Coded-set, coded_list, coded_ℕ}
use Rattle.lattice.specs.declared.cell.Cell.{Cell}
use Rattle.lattice.specs.contracts.cell.Cell.{the_row}
use Rattle.walk.specs.declared.trail.Trail.{Trail}
use Rattle.walk.specs.Trails.{Sound}

sound_once : (ds : List Cell) (t : Trail) → IsProp (Sound ds t)
sound_once ds t p q = λ i. record {
  places_are = Coded-set (coded_list the_row.coded) _ _ p.places_are q.places_are i;
  lengths_are = λ k l. Coded-set coded_ℕ _ _ (p.lengths_are k l) (q.lengths_are k l) i;
  picks_low = λ k l. le_prop (p.picks_low k l) (q.picks_low k l) i;
  cells_are = Coded-set (coded_list the_row.coded) _ _ p.cells_are q.cells_are i;
  shown_are = Coded-set (coded_list the_row.coded) _ _ p.shown_are q.shown_are i;
}

pub sound_from : (ds : List Cell) (t : Trail) → ∥ Sound ds t ∥₁ → Sound ds t
sound_from ds t h = ∥∥₁_elim h (sound_once ds t) (λ s. s)
