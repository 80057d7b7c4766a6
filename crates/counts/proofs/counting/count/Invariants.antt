use Rattle.std.proofs.Common.{◌≡◌, ◌+◌, ◌^◌, ◌<◌, length}
use Rattle.sources.specs.Sources.{ahead}
use Rattle.counts.proofs.counting.count.Given as goal

abbrev pub invariant-loop-counted : goal.invariant-loop-counted
invariant-loop-counted g l = (l.counted + length (ahead (g.S.Source.stands l.source)) ≡ length (ahead (g.S.Source.stands l.initial.source))) × (l.counted < 2 ^ 64)

abbrev pub decreases-loop-counted : goal.decreases-loop-counted
decreases-loop-counted g l = length (ahead (g.S.Source.stands l.source))
