use Rattle.std.proofs.Common.{refl}
use Rattle.walk.specs.Trails.{ways}
use Rattle.walk.proofs.Trails.{length_low, turned_back}
use Rattle.walk.proofs.trail.Trail.go_back.Goals as goal

pub cut_back-requires : goal.cut_back-requires
cut_back-requires c = let t = c.args.self.now in length_low (ways t) t c.requires.sound c.requires.some

pub returns : goal.returns
returns c = let t = c.args.self.now in turned_back (ways t) t c.requires.sound c.requires.some _ c.requires.none refl refl refl refl refl refl refl c.requires.hidden c.cut_back.ensures
