-- How many motions the lattices have.
use Rattle.std.proofs.Common.{◌≡◌, ℕ, ◌*◌, length}
use Rattle.std.proofs.lemmas.List.FromFn.{length-map-range_with_len}
use Rattle.lattice.specs.Matrices.{Matrix}
use Rattle.lattices.specs.Cubic.{cubic_motion, cubic_motions}
use Rattle.lattices.specs.Hex.{hex_turn, hex_motions}
use Rattle.lattices.specs.Plane.{plane_motion, plane_motions}
use Rattle.lattices.specs.Square.{square_turn, square_motions}

pub plane_count : (turn : Matrix) (n : ℕ) → length (plane_motions turn n) ≡ 2 * n
plane_count turn n = length-map-range_with_len (plane_motion turn n) 0 (2 * n)

pub square_count : length square_motions ≡ 8
unfolding square_motions
square_count = plane_count square_turn 4

pub hex_count : length hex_motions ≡ 12
unfolding hex_motions
hex_count = plane_count hex_turn 6

pub cubic_count : length cubic_motions ≡ 48
unfolding cubic_motions
cubic_count = length-map-range_with_len cubic_motion 0 48
