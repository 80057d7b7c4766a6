-- A list in normal position has (0,0,0) and greater cells, so a walk can start in it.
use Rattle.std.proofs.Common.{◌≡◌, true, ◌⊎◌, List, [], ◌∷◌, ◌∙◌, subst, inl, inr}
use Rattle.ordered.specs.Members.{In}
use Rattle.lattice.specs.declared.cell.Cell.{Cell}
use Rattle.lattice.specs.Cells.{origin, cell_less}
use Rattle.shapes.specs.Positions.{NormalPosition}
use Rattle.shapes.proofs.Positions.{origin_in, position_no_repeats}
use Rattle.walk.specs.Neighbourhoods.{Rooted}
use Rattle.walk.specs.CellsAround.{cells_around}

pub rooted : (ds xs : List Cell) → NormalPosition xs → Rooted (cells_around ds) xs
unfolding cells_around
rooted ds xs p = record { differ = position_no_repeats xs p; has_start = origin_in xs p; others_above = above xs p }
  where
    above : (xs : List Cell) → NormalPosition xs → (x : Cell) → In x xs → (x ≡ origin) ⊎ (cell_less origin x ≡ true)
    above [] p x m = absurd m
    above (y ∷ ys) p x (inl e) = inl (e ∙ p.from_origin)
    above (y ∷ ys) p x (inr m) = inr (subst (λ w. cell_less w x ≡ true) p.from_origin (p.ascending.0 x m))
