use Rattle.std.proofs.Common.{◌≡◌, drop}
use Rattle.shapes.specs.Floods.{some_pass, same_cell}
use Rattle.shapes.specs.Positions.{neighbours}
use Rattle.shapes.proofs.flooding.is_at.Given as goal

-- the directions that are left decide
abbrev pub invariant-loop-k : goal.invariant-loop-k
invariant-loop-k g l =
    some_pass (same_cell l.fn.y) (neighbours (drop l.k (g.L.Lattice.directions l.lattice)) l.fn.x)
    ≡ some_pass (same_cell l.fn.y) (neighbours (g.L.Lattice.directions l.lattice) l.fn.x)
