use Rattle.std.proofs.Common.{◌≡◌, ℕ, ◌<◌, ◌≤◌, List, map, length, get_or, take, refl, ap, ◌∙◌, arith}
use Rattle.std.proofs.lemmas.List.{take_all}
use Rattle.lattice.specs.Kinds.{set_motions}
use Rattle.shapes.specs.Shapes.{shape_cells}
use Rattle.shapes.specs.Members.{usable, orientations, orbit_list, oriented}
use Rattle.shapes.proofs.Members.{closed_usable}
use Rattle.shapes.proofs.Orientations.{few_orientations, orientation_skipped, orientation_added}
use Rattle.shapes.proofs.symmetry.orbit.Goals as goal
use Rattle.shapes.proofs.symmetry.orbit.Goals.{then-motion-motion_count, else-motion-motion_count}

pub add-requires : goal.add-requires
add-requires g c =
    let set = c.args.set.now in
    let ms = g.L.Lattice.motions c.args.lattice.now in
    let few = few_orientations ms (shape_cells c.args.shape.now) c.as_slice-motion-items.result.now c.loop-motion.motion-index c.loop-motion-test.true (orbit_list c.loop-motion.orbit) c.loop-motion.invariant in
    omega (arith, few, ap length c.as_slice-motion-items.ensures, set.few)

pub loop-motion-preserved : goal.loop-motion-preserved
loop-motion-preserved g c =
    let ms = g.L.Lattice.motions c.args.lattice.now in
    let s = shape_cells c.args.shape.now in
    let ys = c.as_slice-motion-items.result.now in
    let i = c.loop-motion.motion-index in
    let xs = orbit_list c.loop-motion.orbit in
    elim c.if-motion-motion_count.branch [
      | then-motion-motion_count w ↦
          let l : get_or ys i 0 < length ms = omega (arith, c.motion_count.ensures, w.if-motion-motion_count.true) in
          ap (λ o. map oriented (orbit_list o)) w.orbit-is ∙ ap (map oriented) w.add.ensures ∙ orientation_added ms s ys i c.loop-motion-test.true xs c.loop-motion.invariant (record { motion = get_or ys i 0; placement = w.member-placement.result }) l refl (w.member-placement.ensures.image l)
      | else-motion-motion_count w ↦
          let l : length ms ≤ get_or ys i 0 = omega (arith, c.motion_count.ensures, w.if-motion-motion_count.false) in
          ap (λ o. map oriented (orbit_list o)) w.orbit-is ∙ orientation_skipped ms s ys i c.loop-motion-test.true xs c.loop-motion.invariant l
    ]

pub returns : goal.returns
returns g c =
    let ms = g.L.Lattice.motions c.args.lattice.now in
    let s = shape_cells c.args.shape.now in
    let ys = c.as_slice-motion-items.result.now in
    let i = c.loop-motion.motion-index in
    let all : take i ys ≡ set_motions c.args.set.now = take_all i ys c.loop-motion-test.false ∙ c.as_slice-motion-items.ensures in
    let gs = set_motions c.args.set.now in
    let e = c.loop-motion.invariant ∙ ap (λ (l : List ℕ). orientations ms (usable ms l) s) all in
    record { value = e; closed = λ C. e ∙ ap (λ (l : List ℕ). orientations ms l s) (closed_usable ms gs C) }
