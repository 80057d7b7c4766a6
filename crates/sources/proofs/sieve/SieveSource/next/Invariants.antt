use Rattle.std.proofs.Common.{◌≡◌, length}
use Rattle.sources.specs.Sources.{ahead}
use Rattle.sources.proofs.Sieving.{PassedOver}
use Rattle.sources.proofs.sieve.SieveSource.next.Given as goal

abbrev pub invariant-loop-found : goal.invariant-loop-found
invariant-loop-found g l =
    let s = l.initial.self in
    (l.self.condition ≡ s.condition) × (l.out ≡ l.initial.out) × PassedOver (g.C.Condition.passing s.condition) (g.S.Source.stands s.source) (g.S.Source.stands l.self.source)

abbrev pub decreases-loop-found : goal.decreases-loop-found
decreases-loop-found g l = length (ahead (g.S.Source.stands l.self.source))
