use Rattle.std.proofs.Common.{◌≡◌, drop}
use Rattle.shapes.specs.Floods.{touches, same_cell}
use Rattle.shapes.specs.Members.{placement_cells}
use Rattle.shapes.specs.Positions.{neighbours}
use Rattle.shapes.proofs.flooding.touches.Given as goal

-- the cells that are left decide
abbrev pub invariant-loop-x : goal.invariant-loop-x
invariant-loop-x g l =
    let near = neighbours (g.L.Lattice.directions l.lattice) in
    touches same_cell near (drop l.x-index (placement_cells l.reached)) l.y ≡ touches same_cell near (placement_cells l.reached) l.y
