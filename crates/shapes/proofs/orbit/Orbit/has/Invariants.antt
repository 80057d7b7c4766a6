use Rattle.std.proofs.Common.{◌≡◌, drop}
use Rattle.shapes.specs.Classes.{same_cells}
use Rattle.shapes.specs.Floods.{some_pass}
use Rattle.shapes.specs.Members.{placement_cells, orbit_list}
use Rattle.shapes.proofs.orbit.Orbit.has.Given as goal

-- what is left decides
abbrev pub invariant-loop-orientation : goal.invariant-loop-orientation
invariant-loop-orientation l =
    some_pass (λ o. same_cells (placement_cells o.placement) l.cells) (drop l.orientation-index (orbit_list l.self)) ≡ some_pass (λ o. same_cells (placement_cells o.placement) l.cells) (orbit_list l.self)
