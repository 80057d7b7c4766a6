use Rattle.std.proofs.Common.{sym, refl, ◌∙◌, arith}
use Rattle.walk.specs.PlaceLists.{directions_in}
use Rattle.walk.proofs.Around.{first_is}
use Rattle.walk.proofs.trail.Trail.new.Goals as goal

pub returns : goal.returns
returns c = record {
  sound = record {
    places_are = c.new.ensures ∙ sym (first_is (directions_in c.args.directions));
    lengths_are = λ k l. absurd (omega arith);
    picks_low = λ k l. absurd (omega arith);
    cells_are = refl;
    shown_are = refl;
  };
  same_directions = refl;
  size_is = refl;
  all = refl;
  none_shown = refl;
}
