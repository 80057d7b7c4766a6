use Rattle.walk.specs.Trails.{ways, effort}
use Rattle.walk.proofs.Trails.{Seeking}
use Rattle.walk.proofs.trail.Trail.seek.Given as goal

abbrev pub invariant-loop-self : goal.invariant-loop-self
invariant-loop-self l = Seeking (ways l.initial.self) l.initial.self l.self

abbrev pub decreases-loop-self : goal.decreases-loop-self
decreases-loop-self l = effort (ways l.initial.self) l.self
