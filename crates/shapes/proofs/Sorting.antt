-- Sorting cells by insertion, one after the other.
use Rattle.std.proofs.Common.{◌≡◌, ℕ, ◌+◌, ◌<◌, ◌≤◌, List, length, get_or, take, sym, ap, ◌∙◌, arith, length-take}
use Rattle.std.proofs.lemmas.List.{take_all}
use Rattle.ordered.specs.Lookups.{inserted, sorted}
use Rattle.ordered.proofs.Sorted.{sorted_more, length_sorted_le}
use Rattle.lattice.specs.declared.cell.Cell.{Cell}
use Rattle.lattice.specs.Cells.{origin, cell_less}
use Rattle.lattice.specs.Coordinates.{cell_order}

module _ (xs ys : List Cell) (i : ℕ) (e : ys ≡ sorted cell_less (take i xs)) where
  pub one_more : (x : Cell) → i < length xs → x ≡ get_or xs i origin → inserted cell_less x ys ≡ sorted cell_less (take (i + 1) xs)
  one_more x h is = rw (is, e) (sym (sorted_more cell_less cell_order xs i origin h))

  pub room : i < length xs → length xs ≤ 16 → length ys < 16
  room h few = omega (arith, ap length e, length_sorted_le cell_less cell_order (take i xs), length-take i xs)

  pub all_sorted : length xs ≤ i → ys ≡ sorted cell_less xs
  all_sorted h = e ∙ ap (sorted cell_less) (take_all i xs h)
