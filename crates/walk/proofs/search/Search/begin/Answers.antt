use Rattle.std.proofs.Common.{sym, ap, ◌∙◌}
use Rattle.walk.specs.CellsAround.{cells_around}
use Rattle.walk.specs.Listings.{all_picks}
use Rattle.walk.specs.Trails.{ways}
use Rattle.walk.proofs.Ends.{ends_itself, ends_same}
use Rattle.walk.proofs.search.Search.begin.Goals as goal

pub invariant_of-result : goal.invariant_of-result
invariant_of-result g c =
    let t = c.new-trail.result in
    let k = c.new-trail.ensures in
    let all = all_picks (cells_around (ways t)) t.size in
    record {
      sound = ∣ k.sound ∣₁;
      end = ends_same all all _ (k.all ∙ ap (all_picks (cells_around (ways t))) (sym k.size_is)) (ends_itself all);
    }
