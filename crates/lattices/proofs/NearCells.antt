-- What the making of a cell in reach says of the cell.
use Rattle.std.proofs.Common.{◌≡◌, cond, arith}
use Rattle.std.specs.Prelude.{Option, Some, None, option_map}
use Rattle.lattice.specs.declared.cell.Cell.{Cell}
use Rattle.lattice.specs.Cells.{in_reach}
use Rattle.lattices.specs.declared.near_cell.NearCell.{NearCell}

pub near_is : (cell : Cell) (made : Option NearCell) (x : NearCell) → option_map (λ y. y.cell) made ≡ cond (in_reach cell) (Some cell) None → made ≡ Some x → x.cell ≡ cell
near_is cell made x e is = grind arith
