use Rattle.std.proofs.Common.{◌≡◌, length}
use Rattle.walk.specs.Searches.{left}
use Rattle.listing.specs.Listers.{listed_by}
use Rattle.listing.proofs.Searching.{Skipped}
use Rattle.listing.proofs.listers.ListerSource.next.Given as goal

abbrev pub invariant-loop-self : goal.invariant-loop-self
invariant-loop-self g l =
    let s = l.initial.self in
    (l.self.lattice ≡ s.lattice)
    × (l.self.set ≡ s.set)
    × (l.self.last ≡ s.last)
    × (l.out ≡ l.initial.out)
    × Skipped (listed_by g.L.Lattice.motions s) s.search l.self.search

abbrev pub decreases-loop-self : goal.decreases-loop-self
decreases-loop-self g l = length (left l.self.search)
