use Rattle.std.proofs.Common.{arith}
use Rattle.walk.specs.Trails.{ways}
use Rattle.walk.proofs.Trails.{seeking_ends}
use Rattle.walk.proofs.trail.Trail.seek.Goals as goal

pub returns-then-self-eq0 : goal.returns-then-self-eq0
returns-then-self-eq0 c =
    let t = c.args.self.now in
    let k = seeking_ends (ways t) _ c.loop-self.self c.loop-self.invariant (omega arith) (omega arith) in
    record { sound = k.sound; same_directions = k.same_directions; same_size = k.same_size; none_before = k.none_before; none_after = k.none_after; none_shown = k.none_shown }
