use Rattle.std.proofs.Common.{ltb, is_ok, Decides, sym, ap, ◌∙◌, subst}
use Rattle.ordered.specs.Members.{In}
use Rattle.ordered.specs.Lookups.{lookup}
use Rattle.ordered.proofs.Ascending.{lookup_decides}
use Rattle.ordered.proofs.Orders.{number_order}
use Rattle.lattice.specs.Kinds.{set_motions}
use Rattle.lattice.proofs.Rising.{ascending_from_climbs}
use Rattle.lattice.proofs.motion_set.MotionSet.contains.Goals as goal

pub returns : goal.returns
returns c =
    let s = c.args.self.now in
    let m = c.args.motion in
    subst (λ b. Decides b (In m (set_motions s))) (sym (c.is_ok.ensures.value ∙ ap is_ok (c.find.ensures ∙ ap (lookup ltb m) c.as_slice.ensures))) (lookup_decides ltb number_order m (set_motions s) (ascending_from_climbs (set_motions s) s.ascending))
