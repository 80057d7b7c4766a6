use Rattle.std.proofs.Common.{rules}
use Rattle.lattice.proofs.cell.Cell.checked_add.Goals as goal

pub returns-in_err-checked_add-3 : goal.returns-in_err-checked_add-3
returns-in_err-checked_add-3 c =
    let no = c.in_err-checked_add-3.ensures in
    let none = c.from_residual-in_err-checked_add-3.ensures in
    search rules depth 8
