use Rattle.std.proofs.Common.{◌≡◌, ℕ, true, false, ltb, length, sym, ap, ◌∙◌, arith}
use Rattle.std.specs.Ordering.{is_lt}
use Rattle.ordered.specs.Orders.{list_less}
use Rattle.shapes.specs.Shapes.{shape_cells}
use Rattle.shapes.proofs.ShapeFacts.{shape_position}
use Rattle.walk.specs.PlaceLists.{pick_numbers}
use Rattle.walk.specs.Searches.{search_size}
use Rattle.listing.proofs.Located.{told_by_list, least_connected}
use Rattle.listing.proofs.listers.ListerListing.whereabouts.Goals as goal

pub returns-in_default-pick_list : goal.returns-in_default-pick_list
returns-in_default-pick_list g c o h =
    let s = c.args.self.now in
    let L = g.L.Lattice in
    let x = c.args.shape.now in
    let size : length (shape_cells x) ≡ search_size s.search = omega arith in
    let joined = least_connected L.directions L.motions s o h (L.letters s.lattice) (L.onesided s.lattice) (L.rules s.lattice) (shape_cells x) (shape_cells c.in-Some.least) (shape_position x) size c.in-Some.ensures in
    let wrong : false ≡ true = c.in_default-pick_list.ensures.connected.1 joined in
    let n : ◌≡◌ {A = ℕ} 0 1 = cc in
    absurd (omega arith)

pub returns-then-is_lt : goal.returns-then-is_lt
returns-then-is_lt g c o h =
    let s = c.args.self.now in
    let L = g.L.Lattice in
    let x = c.args.shape.now in
    let size : length (shape_cells x) ≡ search_size s.search = omega arith in
    let p = pick_numbers c.in-Some-pick_list.list in
    let order : list_less ltb (pick_numbers s.last) p ≡ true = sym (c.if-is_lt.ensures ∙ ap is_lt c.compare.ensures.value ∙ λ i. list_less ltb (c.picks.ensures i) (c.picks-2.ensures i)) in
    told_by_list L.directions L.motions s o h (L.letters s.lattice) (L.onesided s.lattice) (L.rules s.lattice) (shape_cells x) (shape_cells c.in-Some.least) (shape_position x) size c.in-Some.ensures p c.in-Some-pick_list.ensures.value true order

pub returns-else-is_lt : goal.returns-else-is_lt
returns-else-is_lt g c o h =
    let s = c.args.self.now in
    let L = g.L.Lattice in
    let x = c.args.shape.now in
    let size : length (shape_cells x) ≡ search_size s.search = omega arith in
    let p = pick_numbers c.in-Some-pick_list.list in
    let order : list_less ltb (pick_numbers s.last) p ≡ false = sym (c.if-is_lt.ensures ∙ ap is_lt c.compare.ensures.value ∙ λ i. list_less ltb (c.picks.ensures i) (c.picks-2.ensures i)) in
    told_by_list L.directions L.motions s o h (L.letters s.lattice) (L.onesided s.lattice) (L.rules s.lattice) (shape_cells x) (shape_cells c.in-Some.least) (shape_position x) size c.in-Some.ensures p c.in-Some-pick_list.ensures.value false order
