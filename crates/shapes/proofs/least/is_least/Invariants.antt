use Rattle.std.proofs.Common.{◌≡◌, ℕ, true, ◌&&◌, ltb, length, take}
use Rattle.ordered.specs.Members.{In}
use Rattle.lattice.specs.Kinds.{set_motions}
use Rattle.shapes.specs.Classes.{cells_less, moved}
use Rattle.shapes.specs.Shapes.{shape_cells}
use Rattle.shapes.proofs.least.is_least.Given as goal

abbrev pub invariant-loop-motion : goal.invariant-loop-motion
invariant-loop-motion g l =
    let ms = g.L.Lattice.motions l.lattice in
    let s = shape_cells l.shape in
    (k : ℕ) → In k (take l.motion-index (set_motions l.set)) → (ltb k (length ms) && cells_less (moved ms k s) s) ≡ true → ⊥
