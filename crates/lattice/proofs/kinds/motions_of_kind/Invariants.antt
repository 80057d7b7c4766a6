use Rattle.std.proofs.Common.{◌≡◌, filter}
use Rattle.std.specs.List.{range_with_len}
use Rattle.lattice.specs.Kinds.{uses, set_motions}
use Rattle.lattice.proofs.kinds.motions_of_kind.Given as goal

abbrev pub invariant-loop-motion : goal.invariant-loop-motion
invariant-loop-motion g l = set_motions l.set ≡ filter (uses l.kind (g.L.Lattice.onesided l.lattice)) (range_with_len 0 l.motion)
