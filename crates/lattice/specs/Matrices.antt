-- Motions of a lattice are 3 by 3 matrices of whole numbers. Assumes nothing.
--     Matrix             three rows: of each coordinate of the image, how much of a, b and c it takes
--     image m x          the cell to which m carries x
--     product g h        the matrix of "h first, then g"
--     identity           the matrix that leaves every cell where it is
--     Small m            every entry of m is −1, 0 or 1
--     same_matrix g h    the test of equality, entry by entry
use Rattle.std.specs.Prelude.{Bool, List, ◌++◌, ℤ, pos, ◌+ℤ◌, ◌*ℤ◌, int_lt}
use Rattle.std.specs.Ordering.{is_eq}
use Rattle.ordered.specs.Orders.{comparison}
use Rattle.lattice.specs.declared.cell.Cell.{Cell}
use Rattle.lattice.specs.Cells.{cell, coordinates, Within}

pub record Matrix : Type 0 where
  pub to_a : Cell
  pub to_b : Cell
  pub to_c : Cell

abbrev pub dot : Cell → Cell → ℤ
dot r x = r.a *ℤ x.a +ℤ r.b *ℤ x.b +ℤ r.c *ℤ x.c

unfoldable pub image : Matrix → Cell → Cell
image m x = cell (dot m.to_a x) (dot m.to_b x) (dot m.to_c x)

-- the row r of a matrix times m
unfoldable pub row_times : Cell → Matrix → Cell
row_times r m =
    cell
    (r.a *ℤ m.to_a.a +ℤ r.b *ℤ m.to_b.a +ℤ r.c *ℤ m.to_c.a)
    (r.a *ℤ m.to_a.b +ℤ r.b *ℤ m.to_b.b +ℤ r.c *ℤ m.to_c.b)
    (r.a *ℤ m.to_a.c +ℤ r.b *ℤ m.to_b.c +ℤ r.c *ℤ m.to_c.c)

unfoldable pub product : Matrix → Matrix → Matrix
product g h = record { to_a = row_times g.to_a h; to_b = row_times g.to_b h; to_c = row_times g.to_c h }

unfoldable pub identity : Matrix
identity = record {
  to_a = cell (pos 1) (pos 0) (pos 0);
  to_b = cell (pos 0) (pos 1) (pos 0);
  to_c = cell (pos 0) (pos 0) (pos 1);
}

abbrev pub Small : Matrix → Type 0
Small m = Within 1 m.to_a × Within 1 m.to_b × Within 1 m.to_c

abbrev pub entries : Matrix → List ℤ
entries m = coordinates m.to_a ++ (coordinates m.to_b ++ coordinates m.to_c)

unfoldable pub same_matrix : Matrix → Matrix → Bool
same_matrix g h = is_eq (comparison int_lt (entries g) (entries h))
