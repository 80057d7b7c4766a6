use Rattle.std.proofs.Common.{◌≡◌, map, take}
use Rattle.shapes.specs.Shapes.{shape_cells}
use Rattle.shapes.specs.Members.{usable, orientations, orbit_list, oriented}
use Rattle.shapes.proofs.symmetry.orbit.Given as goal

abbrev pub invariant-loop-motion : goal.invariant-loop-motion
invariant-loop-motion g l =
    let ms = g.L.Lattice.motions l.lattice in
    map oriented (orbit_list l.orbit) ≡ orientations ms (usable ms (take l.motion-index l.motion-items)) (shape_cells l.shape)
