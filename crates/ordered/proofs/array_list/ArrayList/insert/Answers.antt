use Rattle.std.proofs.Common.{◌+◌, arith, ◌∙◌, ap, length, take, drop}
use Rattle.ordered.proofs.Rooms.{blank_behind}
use Rattle.ordered.proofs.Slots.{placed_room, placed_rest, placed_list, placed_length}
use Rattle.ordered.proofs.array_list.ArrayList.insert.Goals as goal

pub invariant_of-self-2 : goal.invariant_of-self-2
invariant_of-self-2 g c =
    let s = c.args.self.now in
    let less = g.T.TotalOrder.less in
    let p = c.in_ok-place in
    let room = placed_room less c.args.item s.count s.slots p.place p.ensures.answer in
    record {
      few = omega (arith, s.space);
      space = ap length p.ensures.after ∙ placed_length less c.args.item s.count s.slots p.place p.ensures.answer ∙ s.space;
      blank =
          ap (drop (s.count + 1)) p.ensures.after
          ∙ placed_rest less c.args.item s.count s.slots p.place p.ensures.answer
          ∙ blank_behind g.row.N s.count g.T.Filler.blank s.slots s.blank;
    }

pub returns-clause-after : goal.returns-clause-after
returns-clause-after g c =
    let s = c.args.self.now in
    let p = c.in_ok-place in
    ap (take (s.count + 1)) p.ensures.after
    ∙ placed_list g.T.TotalOrder.less c.args.item s.count s.slots p.place p.ensures.answer
