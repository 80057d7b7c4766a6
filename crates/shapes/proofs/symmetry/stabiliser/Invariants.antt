use Rattle.std.proofs.Common.{◌≡◌, ltb, ◌∷◌, take, filter}
use Rattle.ordered.specs.Lookups.{sorted}
use Rattle.lattice.specs.Kinds.{set_motions}
use Rattle.shapes.specs.Shapes.{shape_cells}
use Rattle.shapes.proofs.Members.{stays}
use Rattle.shapes.proofs.symmetry.stabiliser.Given as goal

-- motion 0 is there from the beginning
abbrev pub invariant-loop-motion : goal.invariant-loop-motion
invariant-loop-motion g l = set_motions l.found ≡ sorted ltb (0 ∷ filter (stays (g.L.Lattice.motions l.lattice) (shape_cells l.shape)) (take l.motion-index (set_motions l.set)))
