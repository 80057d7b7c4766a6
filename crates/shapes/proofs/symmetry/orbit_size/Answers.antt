use Rattle.std.proofs.Common.{◌≡◌, ℕ, List, length, sym, ap, ◌∙◌}
use lib.ListN.{length-map}
use Rattle.lattice.specs.Kinds.{set_motions}
use Rattle.shapes.specs.Classes.{moved, orbit_size_of}
use Rattle.shapes.specs.Shapes.{shape_cells}
use Rattle.shapes.specs.Members.{usable, first_motions, orbit_list, oriented}
use Rattle.shapes.proofs.Members.{closed_usable}
use Rattle.shapes.proofs.Orientations.{first_motions_count, orbit_some}
use Rattle.shapes.proofs.symmetry.orbit_size.Goals as goal

pub returns : goal.returns
returns g c =
    let ms = g.L.Lattice.motions c.args.lattice.now in
    let s = shape_cells c.args.shape.now in
    let gs = set_motions c.args.set.now in
    let xs = orbit_list c.orbit.result in
    let e : c.len.result ≡ orbit_size_of ms (usable ms gs) s = c.len.ensures.value ∙ sym (length-map xs oriented) ∙ ap length c.orbit.ensures.value ∙ length-map (first_motions ms (usable ms gs) s) (λ k. (k, moved ms k s)) ∙ first_motions_count ms s (usable ms gs) in
    record {
      value = e;
      some = rw e (orbit_some (g.L.Lattice.rules c.args.lattice.now) c.args.set.now s);
      few = c.len.ensures.few;
      closed = λ C. e ∙ ap (λ (l : List ℕ). orbit_size_of ms l s) (closed_usable ms gs C);
    }
