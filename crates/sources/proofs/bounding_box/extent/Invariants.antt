use Rattle.std.proofs.Common.{◌≡◌, ℤ, map, drop}
use lib.Signed.{lt_z}
use Rattle.std.specs.List.{best_of}
use Rattle.lattice.specs.declared.cell.Cell.{Cell}
use Rattle.sources.specs.Conditions.{greatest, least}
use Rattle.sources.proofs.bounding_box.extent.Given as goal

abbrev pub invariant-loop-cell : goal.invariant-loop-cell
invariant-loop-cell g l =
    (f : Cell → ℤ) → ((x : Cell) (z : ℤ) → goal.F-post g l.along x z → z ≡ f x) → let left = map f (drop l.cell-index l.cells) in
    (best_of lt_z l.least left ≡ least f l.cells) × (best_of (λ x y. lt_z y x) l.greatest left ≡ greatest f l.cells)
