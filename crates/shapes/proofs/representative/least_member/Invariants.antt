use Rattle.std.proofs.Common.{◌≡◌, take}
use Rattle.lattice.specs.Kinds.{set_motions}
use Rattle.shapes.specs.Classes.{least_member}
use Rattle.shapes.specs.Members.{usable}
use Rattle.shapes.specs.Shapes.{shape_cells}
use Rattle.shapes.proofs.representative.least_member.Given as goal

abbrev pub invariant-loop-motion : goal.invariant-loop-motion
invariant-loop-motion g l =
    let ms = g.L.Lattice.motions l.lattice in
    shape_cells l.least ≡ least_member ms (usable ms (take l.motion-index (set_motions l.set))) (shape_cells l.shape)
