-- The cubic lattice. Assumes nothing.
--     cubic_name           the bytes of its name
--     cubic_directions     its directions
--     order_of p           the matrix that makes of (a,b,c), for p from 0 to 5: (a,b,c), (b,c,a), (c,a,b), (a,c,b), (b,a,c), (c,b,a)
--     signs s              the matrix that negates the first, second and third coordinate where s has the bit of weight 1, 2 or 4
--     cubic_motions        its 48 motions: motion 8p + s is first the order p, then the signs s
--     cubic_one_sided      its one-sided set: p of 0 to 2 with an even number of ones in s, p of 3 to 5 with an odd number
use Rattle.std.specs.Prelude.{ℕ, zero, suc, ◌/◌, ◌%◌, Bool, cond, List, [], ◌∷◌, map, ℤ, pos, negsuc, codes, ◌==◌, count_ones, nat_lt}
use Rattle.std.specs.List.{range_with_len}
use Rattle.lattice.specs.declared.cell.Cell.{Cell}
use Rattle.lattice.specs.Cells.{cell}
use Rattle.lattice.specs.Matrices.{Matrix, product}

abbrev pub cubic_name : List ℕ
cubic_name = codes "cubic"

abbrev pub cubic_directions : List Cell
cubic_directions =
    cell (pos 1) (pos 0) (pos 0)
    ∷ cell (pos 0) (pos 1) (pos 0)
    ∷ cell (pos 0) (pos 0) (pos 1)
    ∷ cell (negsuc 0) (pos 0) (pos 0)
    ∷ cell (pos 0) (negsuc 0) (pos 0)
    ∷ cell (pos 0) (pos 0) (negsuc 0)
    ∷ []

-- the rows that take one coordinate, times a sign
abbrev pub a_row : ℤ → Cell
a_row z = cell z (pos 0) (pos 0)

abbrev pub b_row : ℤ → Cell
b_row z = cell (pos 0) z (pos 0)

abbrev pub c_row : ℤ → Cell
c_row z = cell (pos 0) (pos 0) z

abbrev pub rows : Cell → Cell → Cell → Matrix
rows x y z = record { to_a = x; to_b = y; to_c = z }

abbrev pub order_of : ℕ → Matrix
order_of zero = rows (a_row (pos 1)) (b_row (pos 1)) (c_row (pos 1))
order_of (suc zero) = rows (b_row (pos 1)) (c_row (pos 1)) (a_row (pos 1))
order_of (suc (suc zero)) = rows (c_row (pos 1)) (a_row (pos 1)) (b_row (pos 1))
order_of (suc (suc (suc zero))) = rows (a_row (pos 1)) (c_row (pos 1)) (b_row (pos 1))
order_of (suc (suc (suc (suc zero)))) = rows (b_row (pos 1)) (a_row (pos 1)) (c_row (pos 1))
order_of (suc (suc (suc (suc (suc p))))) = rows (c_row (pos 1)) (b_row (pos 1)) (a_row (pos 1))

-- −1 where the bit is 1
abbrev pub sign : ℕ → ℤ
sign bit = cond (bit == 1) (negsuc 0) (pos 1)

abbrev pub signs : ℕ → Matrix
signs s = rows (a_row (sign (s % 2))) (b_row (sign (s / 2 % 2))) (c_row (sign (s / 4 % 2)))

unfoldable pub cubic_motion : ℕ → Matrix
cubic_motion g = product (signs (g % 8)) (order_of (g / 8))

unfoldable pub cubic_motions : List Matrix
cubic_motions = map cubic_motion (range_with_len 0 48)

unfoldable pub cubic_one_sided : ℕ → Bool
cubic_one_sided g = count_ones (g % 8) % 2 == cond (nat_lt (g / 8) 3) 0 1
