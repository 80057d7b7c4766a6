-- Flooding: how to decide what is reached in a finite set, with a test of equality of cells. Assumes nothing.
--     some_pass p xs                   some item of xs passes the test p
--     touches same near r y            y is in r or next to a cell of r
--     spread same near s r             the cells of s that are in r or next to a cell of r
--     flooded same near start s k      k rounds: the start, if it is in s, spread k times
--     flood same near start s          as many rounds as s has cells, which reach all that is reached
--     same_cell x y                    the test that x and y are the same cell
--     connected ds s                   the flood of s from the origin, with the directions ds, leaves nothing out
use Rattle.std.specs.Prelude.{ℕ, zero, suc, Bool, false, ◌||◌, List, [], ◌∷◌, length, filter, ◌==◌}
use Rattle.std.specs.Ordering.{is_eq}
use Rattle.ordered.specs.Orders.{rank}
use Rattle.lattice.specs.declared.cell.Cell.{Cell}
use Rattle.lattice.specs.Cells.{origin, cell_less}
use Rattle.shapes.specs.Positions.{neighbours}

abbrev pub some_pass : {X : Type 0} → (X → Bool) → List X → Bool
some_pass p [] = false
some_pass p (x ∷ xs) = p x || some_pass p xs

abbrev pub touches : {X : Type 0} → (X → X → Bool) → (X → List X) → List X → X → Bool
touches same near r y = some_pass (λ x. same x y || some_pass (same y) (near x)) r

abbrev pub spread : {X : Type 0} → (X → X → Bool) → (X → List X) → List X → List X → List X
spread same near s r = filter (touches same near r) s

abbrev pub flooded : {X : Type 0} → (X → X → Bool) → (X → List X) → X → List X → ℕ → List X
flooded same near start s zero = filter (same start) s
flooded same near start s (suc k) = spread same near s (flooded same near start s k)

abbrev pub flood : {X : Type 0} → (X → X → Bool) → (X → List X) → X → List X → List X
flood same near start s = flooded same near start s (length s)

abbrev pub same_cell : Cell → Cell → Bool
same_cell x y = is_eq (rank cell_less x y)

abbrev pub connected : List Cell → List Cell → Bool
connected ds s = length (flood same_cell (neighbours ds) origin s) == length s
