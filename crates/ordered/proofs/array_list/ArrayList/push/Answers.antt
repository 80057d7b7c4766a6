use Rattle.std.proofs.Common.{length-set, arith, ◌∙◌}
use Rattle.ordered.proofs.Rooms.{blank_behind_set}
use Rattle.ordered.proofs.array_list.ArrayList.push.Goals as goal

pub invariant_of-self : goal.invariant_of-self
invariant_of-self g c =
    let s = c.args.self.now in
    let f = c.if-self.false in
    record {
      few = omega (arith, s.few);
      space = length-set s.slots _ c.args.item ∙ s.space;
      blank = blank_behind_set g.row.N s.count _ g.T.Filler.blank c.args.item s.slots (omega arith) s.blank;
    }
