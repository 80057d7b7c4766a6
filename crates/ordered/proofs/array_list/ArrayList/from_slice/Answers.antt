use Rattle.std.proofs.Common.{◌-◌, length, replicate, ap, ◌∙◌, arith}
use Rattle.ordered.proofs.Rooms.{copied_room, copied_rest}
use Rattle.ordered.proofs.array_list.ArrayList.from_slice.Goals as goal

pub invariant_of-result : goal.invariant_of-result
invariant_of-result g c =
    let d = c.default-slots.result in
    let copied = c.copy_from_slice.new.self in
    record {
      few = omega (arith, c.if-items.false);
      space = copied_room _ g.row.N d copied (omega (arith, ap length c.copy_from_slice.ensures.after)) (omega (arith, c.if-items.false));
      blank = copied_rest _ g.row.N d copied (omega (arith, ap length c.copy_from_slice.ensures.after)) ∙ ap (replicate (g.row.N - _)) (g.met.T.Filler.by_default d c.default-slots.ensures);
    }
