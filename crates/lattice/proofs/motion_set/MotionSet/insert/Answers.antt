use Rattle.std.proofs.Common.{◌≡◌, ◌<◌, ◌≤◌, ℕ, List, length, get_or, ltb, sym, ap, ◌∙◌, subst, arith}
use Rattle.std.proofs.lemmas.Bool.{lt-ltb, cond-true}
use Rattle.std.specs.List.Sorted.{IsStrictlyIncreasing}
use Rattle.ordered.specs.Items.{items_of}
use Rattle.ordered.specs.Lookups.{inserted, insertion_at, after_insertion}
use Rattle.ordered.proofs.Ascending.{absent_out}
use Rattle.ordered.proofs.Orders.{number_order}
use Rattle.ordered.proofs.Slots.{inserted_anyway}
use Rattle.lattice.specs.Kinds.{set_motions}
use Rattle.lattice.specs.declared.motion_set.MotionSet.{MotionSet}
use Rattle.lattice.proofs.Rising.{Small, ascending_from_climbs, room_for, added_climbs, added_small, added_zero}
use Rattle.lattice.proofs.motion_set.MotionSet.insert.Goals as goal

-- a set always has room for a number below 48
room : (m : ℕ) (s : MotionSet) → m < 48 → after_insertion (insertion_at ltb m 48 (set_motions s)) (inserted ltb m (set_motions s)) (set_motions s) ≡ inserted ltb m (set_motions s)
room m s l =
    let xs = set_motions s in
    inserted_anyway ltb m 48 xs (λ k e. room_for m xs l s.ascending s.small (absent_out ltb number_order m xs k (ascending_from_climbs xs s.ascending) e))

pub invariant_of-self : goal.invariant_of-self
invariant_of-self c =
    let s = c.args.self.now in
    let m = c.args.motion in
    let xs : List ℕ = set_motions s in
    let l : m < 48 = omega arith in
    let e : inserted ltb m xs ≡ items_of c.insert.new.self = sym (c.insert.ensures.after ∙ ap (λ r. after_insertion r (inserted ltb m xs) xs) c.insert.ensures.value ∙ room m s l) in
    let first = added_zero m xs s.some s.zero in
    record {
      some = subst (λ ys. 1 ≤ length ys) e first.0;
      few = c.insert.ensures.few;
      ascending = subst IsStrictlyIncreasing e (added_climbs m xs s.ascending);
      small = subst Small e (added_small m xs l s.small);
      zero = subst (λ ys. get_or ys 0 1 ≡ 0) e first.1;
    }

pub returns-clause-after : goal.returns-clause-after
returns-clause-after c =
    let s = c.args.self.now in
    let m = c.args.motion in
    let xs : List ℕ = set_motions s in
    let l : m < 48 = omega arith in
    c.insert.ensures.after
    ∙ ap (λ r. after_insertion r (inserted ltb m xs) xs) c.insert.ensures.value
    ∙ room m s l
    ∙ sym (cond-true _ _ _ (lt-ltb m 48 l))
