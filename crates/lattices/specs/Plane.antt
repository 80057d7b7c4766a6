-- Lattices of the plane: c stays, and the motions are turns about (0,0,0), alone or after a swap of a and b. Assumes nothing.
--     swap                      the motion that swaps a and b
--     turns turn k              k turns
--     plane_motion turn n g     motion g = k + n·e, where n turns are a full circle: first the swap if e is 1, then k turns
--     plane_motions turn n      the 2n motions, by number
--     plane_after n g h         the number of "g after h" among them: a swap reverses the turns before it; 0 beyond the count
use Rattle.std.specs.Prelude.{ℕ, zero, suc, ◌+◌, ◌-◌, ◌*◌, ◌/◌, ◌%◌, cond, ◌&&◌, List, map, pos, ◌==◌, nat_lt}
use Rattle.std.specs.List.{range_with_len}
use Rattle.lattice.specs.Cells.{cell}
use Rattle.lattice.specs.Matrices.{Matrix, product, identity}

unfoldable pub swap : Matrix
swap = record {
  to_a = cell (pos 0) (pos 1) (pos 0);
  to_b = cell (pos 1) (pos 0) (pos 0);
  to_c = cell (pos 0) (pos 0) (pos 1);
}

abbrev pub swaps : ℕ → Matrix
swaps zero = identity
swaps (suc e) = swap

abbrev pub turns : Matrix → ℕ → Matrix
turns turn zero = identity
turns turn (suc k) = product turn (turns turn k)

abbrev pub plane_motion : Matrix → ℕ → ℕ → Matrix
plane_motion turn n g = product (turns turn (g % n)) (swaps (g / n))

abbrev pub plane_motions : Matrix → ℕ → List Matrix
plane_motions turn n = map (plane_motion turn n) (range_with_len 0 (2 * n))

abbrev pub turns_after : ℕ → ℕ → ℕ → ℕ
turns_after n g h = cond (nat_lt g n) (g % n + h % n) (g % n + (n - h % n)) % n

abbrev pub plane_after : ℕ → ℕ → ℕ → ℕ
plane_after n g h =
    cond (nat_lt g (2 * n) && nat_lt h (2 * n)) (turns_after n g h + cond (g / n == h / n) 0 n) 0
