use Rattle.std.proofs.Common.{sym, ◌∙◌}
use Rattle.lattice.specs.Cells.{origin}
use Rattle.walk.specs.PlaceLists.{place_cells}
use Rattle.walk.proofs.Around.{less_is, put_new, put_below, put_there}
use Rattle.walk.proofs.place_list.PlaceList.put.Goals as goal
use Rattle.walk.proofs.place_list.PlaceList.put.Goals.{else-lt-via-then-lt+else-not-contains, else-lt-via-else-lt}

pub returns-then-not-contains : goal.returns-then-not-contains
returns-then-not-contains c ds =
    c.push.ensures ∙ sym (put_new ds (place_cells c.args.self.now) c.args.x (sym (less_is origin c.args.x) ∙ sym c.if-lt.ensures) (sym (c.if-not-contains.ensures ds)))

pub returns-else-lt : goal.returns-else-lt
returns-else-lt c ds =
    let P = place_cells c.args.self.now in
    sym (elim c.else-lt.branch [
      | else-lt-via-then-lt+else-not-contains w ↦ put_there ds P c.args.x (sym (w.if-not-contains.ensures ds))
      | else-lt-via-else-lt w ↦ put_below ds P c.args.x (sym (less_is origin c.args.x) ∙ sym w.if-lt.ensures)
    ])
