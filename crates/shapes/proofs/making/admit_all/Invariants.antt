use Rattle.std.proofs.Common.{◌≡◌, map, take, drop, None}
use Rattle.ordered.specs.Items.{items_of}
use Rattle.shapes.specs.Faults.{first_fault}
use Rattle.shapes.proofs.making.admit_all.Given as goal

-- what is left has the first fault of all, and the cells passed are admitted
abbrev pub invariant-loop-place : goal.invariant-loop-place
invariant-loop-place g l =
    let xs = map g.T.Locates.located l.places in
    (first_fault l.place l.before (drop l.place xs) ≡ first_fault 0 None xs)
    × (items_of l.cells ≡ take l.place xs)
