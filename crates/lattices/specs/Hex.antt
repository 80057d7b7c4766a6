-- The hex lattice. Assumes nothing.
--     hex_name           the bytes of its name
--     hex_directions     its directions
--     hex_turn           its turn, which takes (a,b) to (−b,a+b); six are a full circle
--     hex_motions        its 12 motions
--     hex_one_sided      its one-sided set: the turns
use Rattle.std.specs.Prelude.{ℕ, Bool, List, [], ◌∷◌, pos, negsuc, codes, nat_lt}
use Rattle.lattice.specs.declared.cell.Cell.{Cell}
use Rattle.lattice.specs.Cells.{cell}
use Rattle.lattice.specs.Matrices.{Matrix}
use Rattle.lattices.specs.Plane.{plane_motions}

abbrev pub hex_name : List ℕ
hex_name = codes "hex"

abbrev pub hex_directions : List Cell
hex_directions =
    cell (pos 1) (pos 0) (pos 0)
    ∷ cell (pos 0) (pos 1) (pos 0)
    ∷ cell (negsuc 0) (pos 1) (pos 0)
    ∷ cell (negsuc 0) (pos 0) (pos 0)
    ∷ cell (pos 0) (negsuc 0) (pos 0)
    ∷ cell (pos 1) (negsuc 0) (pos 0)
    ∷ []

unfoldable pub hex_turn : Matrix
hex_turn = record {
  to_a = cell (pos 0) (negsuc 0) (pos 0);
  to_b = cell (pos 1) (pos 1) (pos 0);
  to_c = cell (pos 0) (pos 0) (pos 1);
}

unfoldable pub hex_motions : List Matrix
hex_motions = plane_motions hex_turn 6

abbrev pub hex_one_sided : ℕ → Bool
hex_one_sided g = nat_lt g 6
