use Rattle.walk.specs.Trails.{ways}
use Rattle.walk.proofs.Once.{sound_from}
use Rattle.walk.proofs.Searches.{sought_sound, sought_end, advanced}
use Rattle.walk.proofs.search.Search.advance.Goals as goal

pub seek-requires : goal.seek-requires
seek-requires c = let s = c.args.self.now in sound_from (ways s.trail) s.trail s.sound

pub invariant_of-self : goal.invariant_of-self
invariant_of-self c =
    let s = c.args.self.now in
    let u = c.seek.new.self in
    record {
      sound = ∣ sought_sound s.trail u c.seek.result c.seek.ensures ∣₁;
      end = sought_end s.trail u c.seek.result c.seek.ensures s.end;
    }

pub returns : goal.returns
returns c = advanced c.args.self.now _ c.seek.result c.seek.ensures
