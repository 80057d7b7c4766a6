-- The matrix of a motion, as a call tells it. Assumes nothing.
--     matrix_of r           the matrix with the rows r
--     matrix_under ms g     the matrix of motion g; all zeros if g is beyond the count
use Rattle.std.specs.Prelude.{ℕ, cond, List, length, nat_lt}
use Rattle.lattice.specs.declared.rows.Rows.{Rows}
use Rattle.lattice.specs.Cells.{origin}
use Rattle.lattice.specs.Matrices.{Matrix}
use Rattle.lattice.specs.Lattices.{motion}

abbrev pub matrix_of : Rows → Matrix
matrix_of r = record { to_a = r.to_a; to_b = r.to_b; to_c = r.to_c }

abbrev pub matrix_under : List Matrix → ℕ → Matrix
matrix_under ms g = cond (nat_lt g (length ms)) (motion ms g) (record { to_a = origin; to_b = origin; to_c = origin })
