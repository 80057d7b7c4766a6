use Rattle.std.proofs.Common.{sym}
use Rattle.ordered.specs.Rooms.{filled_again}
use Rattle.ordered.proofs.array_list.ArrayList.as_slice.Goals as goal

pub returns-clause-filled : goal.returns-clause-filled
returns-clause-filled g c =
    let s = c.args.self.now in
    sym (filled_again g.row.N s.count g.T.Filler.blank s.slots s.few s.space s.blank)
