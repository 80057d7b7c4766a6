-- Lists of cells in normal position, and the cells next to a cell. Assumes nothing.
--     neighbours ds x           the cells next to x, in the order of the directions ds
--     shifted s                 s with its first cell taken away from each
--     normal s                  s with its least cell taken away from each, listed ascending
--     NormalPosition s          s is ascending, and its first cell is there and is the origin
--     ShortOf n x               no coordinate of x reaches n in size
use Rattle.std.specs.Prelude.{◌≡◌, ℕ, ◌<◌, List, [], ◌∷◌, map, unsigned_abs}
use Rattle.ordered.specs.Orders.{Ascending}
use Rattle.ordered.specs.Lookups.{sorted}
use Rattle.lattice.specs.declared.cell.Cell.{Cell}
use Rattle.lattice.specs.Cells.{origin, plus, minus, cell_less}

abbrev pub neighbours : List Cell → Cell → List Cell
neighbours ds x = map (plus x) ds

abbrev pub shifted : List Cell → List Cell
shifted [] = []
shifted (x ∷ xs) = map (λ y. minus y x) (x ∷ xs)

abbrev pub normal : List Cell → List Cell
normal s = shifted (sorted cell_less s)

-- the first cell is there and is the origin
abbrev pub FromOrigin : List Cell → Type 0
FromOrigin [] = ⊥
FromOrigin (x ∷ xs) = x ≡ origin

pub record NormalPosition (s : List Cell) : Type 0 where
  pub ascending : Ascending cell_less s
  pub from_origin : FromOrigin s

abbrev pub ShortOf : ℕ → Cell → Type 0
ShortOf n x = (unsigned_abs x.a < n) × (unsigned_abs x.b < n) × (unsigned_abs x.c < n)
