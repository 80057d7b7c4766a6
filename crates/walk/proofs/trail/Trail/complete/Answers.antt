use Rattle.std.proofs.Common.{set, refl, ap}
use Rattle.walk.specs.Trails.{ways}
use Rattle.walk.proofs.Trails.{found}
use Rattle.walk.proofs.trail.Trail.complete.Goals as goal

pub returns : goal.returns
returns c =
    let t = c.args.self.now in
    found (ways t) t c.requires.sound _ c.requires.here refl refl refl refl (ap (set t.cells t.depth) c.get.ensures) c.requires.last refl refl refl refl
