-- Lattices by name. Assumes nothing.
--     named_lattice bs      the lattice whose name is bs, or the refusal 3
--     name_line bs          the bytes of bs before its first byte 10, or the refusal 9 if there are none, more than 9, or no byte 10
use Rattle.std.specs.Prelude.{ℕ, cond, not, ◌&&◌, List, length, take, Ok, Err, Result, ◌==◌, nat_le, nat_lt}
use Rattle.std.specs.List.{prefix_len}
use Rattle.std.specs.Str.{bytes_eq}
use Rattle.lattices.specs.declared.known.Known.{Known}
use Rattle.lattices.specs.declared.known.Known.TheVariants.{Square, Hex, Cubic}
use Rattle.lattices.specs.Square.{square_name}
use Rattle.lattices.specs.Hex.{hex_name}
use Rattle.lattices.specs.Cubic.{cubic_name}

abbrev pub named_lattice : List ℕ → Result Known ℕ
named_lattice bs =
    cond (bytes_eq bs square_name) (Ok Square) (cond (bytes_eq bs hex_name) (Ok Hex) (cond (bytes_eq bs cubic_name) (Ok Cubic) (Err 3)))

-- the bytes before the first byte 10
abbrev pub length_of_line : List ℕ → ℕ
length_of_line bs = prefix_len (λ b. not (b == 10)) bs

abbrev pub name_line : List ℕ → Result (List ℕ) ℕ
name_line bs =
    cond (nat_lt (length_of_line bs) (length bs) && (nat_le 1 (length_of_line bs) && nat_le (length_of_line bs) 9)) (Ok (take (length_of_line bs) bs)) (Err 9)
