-- The representative of a class. Assumes nothing.
--     least_if_connected ds ms gs s     the least member of s under those of the motions gs that ms has, if s is connected
use Rattle.std.specs.Prelude.{ℕ, cond, List, Some, None, Option}
use Rattle.lattice.specs.declared.cell.Cell.{Cell}
use Rattle.lattice.specs.Matrices.{Matrix}
use Rattle.shapes.specs.Classes.{least_member}
use Rattle.shapes.specs.Floods.{connected}
use Rattle.shapes.specs.Members.{usable}

abbrev pub least_if_connected : List Cell → List Matrix → List ℕ → List Cell → Option (List Cell)
least_if_connected ds ms gs s = cond (connected ds s) (Some (least_member ms (usable ms gs) s)) None
