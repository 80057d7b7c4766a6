use Rattle.std.proofs.Common.{◌≡◌, true, false, sym, ap, ◌∙◌}
use Rattle.lattice.specs.Kinds.{set_motions}
use Rattle.shapes.specs.Entries.{values}
use Rattle.shapes.specs.Shapes.{shape_cells}
use Rattle.walk.specs.Searches.{search_directions, shown}
use Rattle.listing.specs.declared.lister.Lister.{Lister}
use Rattle.listing.specs.Classes.{exact}
use Rattle.listing.specs.Listers.{listed_by}
use Rattle.listing.specs.Made.{shape_of}
use Rattle.listing.proofs.Made.{lawful_belongs}
use Rattle.listing.proofs.Searching.{both_alike, one_skipped, one_come}
use Rattle.listing.proofs.Searched.{same_listed, test_moves, lister_gave, come_kept}
use Rattle.listing.proofs.Shown.{size_some}
use Rattle.listing.proofs.listers.ListerSource.next.Goals as goal

pub returns-then-is_least : goal.returns-then-is_least
returns-then-is_least g c =
    let i = c.loop-self.invariant in
    let M = g.L.Lattice.motions in
    let s = c.args.self.now in
    let u = c.advance.new.self in
    let t : Lister g.row.L.Denot = record { lattice = c.loop-self.self.lattice; set = c.loop-self.self.set; search = u; last = c.pick_list-self.result } in
    let o = listed_by M t in
    let x = shape_cells c.shown_shape-shape.result in
    let shows : x ≡ shape_of (search_directions u) (shown u) = c.shown_shape-shape.ensures in
    let next = c.loop-self-test.ensures in
    let same = same_listed M s t i.0 i.1 (both_alike i.4.alike next.alike) in
    let come = one_come (listed_by M s) i.4 next (test_moves M s t same x true shows (sym c.if-is_least.ensures.value)) in
    let written : values x (set_motions c.stabiliser.result) c.orbit_size.result ≡ exact o x = λ k. values x (c.stabiliser.ensures.value k) (c.orbit_size.ensures.value k) in
    record {
      step = lister_gave M s t i.0 i.1 come (values x (set_motions c.stabiliser.result) c.orbit_size.result) (written ∙ ap (exact o) shows);
      others = come_kept M s t i.0 i.1 come c.pick_list-self.ensures (lawful_belongs o (size_some u) (shown u) next.lawful).1;
    }

pub loop-self-preserved : goal.loop-self-preserved
loop-self-preserved g c =
    let i = c.loop-self.invariant in
    let M = g.L.Lattice.motions in
    let s = c.args.self.now in
    let u = c.advance.new.self in
    let t : Lister g.row.L.Denot = record { lattice = c.loop-self.self.lattice; set = c.loop-self.self.set; search = u; last = c.loop-self.self.last } in
    let next = c.loop-self-test.ensures in
    let same = same_listed M s t i.0 i.1 (both_alike i.4.alike next.alike) in
    let other = test_moves M s t same (shape_cells c.shown_shape-shape.result) false c.shown_shape-shape.ensures (sym c.if-is_least.ensures.value) in
    (i.0, i.1, i.2, i.3, one_skipped (listed_by M s) i.4 next other)
