-- The square lattice. Assumes nothing.
--     square_name           the bytes of its name
--     square_directions     its directions
--     square_turn           its turn, which takes (a,b) to (−b,a); four are a full circle
--     square_motions        its 8 motions
--     square_one_sided      its one-sided set: the turns
use Rattle.std.specs.Prelude.{ℕ, Bool, List, [], ◌∷◌, pos, negsuc, codes, nat_lt}
use Rattle.lattice.specs.declared.cell.Cell.{Cell}
use Rattle.lattice.specs.Cells.{cell}
use Rattle.lattice.specs.Matrices.{Matrix}
use Rattle.lattices.specs.Plane.{plane_motions}

abbrev pub square_name : List ℕ
square_name = codes "square"

abbrev pub square_directions : List Cell
square_directions =
    cell (pos 1) (pos 0) (pos 0)
    ∷ cell (pos 0) (pos 1) (pos 0)
    ∷ cell (negsuc 0) (pos 0) (pos 0)
    ∷ cell (pos 0) (negsuc 0) (pos 0)
    ∷ []

unfoldable pub square_turn : Matrix
square_turn = record {
  to_a = cell (pos 0) (negsuc 0) (pos 0);
  to_b = cell (pos 1) (pos 0) (pos 0);
  to_c = cell (pos 0) (pos 0) (pos 1);
}

unfoldable pub square_motions : List Matrix
square_motions = plane_motions square_turn 4

abbrev pub square_one_sided : ℕ → Bool
square_one_sided g = nat_lt g 4
