-- What the conditions pass. Assumes nothing.
--     best beats f s       the f of a cell of s that no other beats, 0 if s has no cells
--     greatest f s         the greatest f of a cell of s, 0 if s has no cells
--     least f s            the least f of a cell of s, 0 if s has no cells
--     extent f s           the greatest minus the least, plus 1
--     fits w h d e         the cells of the entry e fit into a box: their extent is at most w in a, h in b and d in c
--     has_all gs hs        every one of the numbers gs is one of hs; with no gs, this holds
use Rattle.std.specs.Prelude.{ℕ, Bool, ◌&&◌, List, [], ◌∷◌, map, ℤ, pos, ◌+ℤ◌, ◌-ℤ◌, int_le, int_lt, nat_eq}
use Rattle.std.specs.List.{best_of, list_all}
use Rattle.lattice.specs.declared.cell.Cell.{Cell}
use Rattle.shapes.specs.Entries.{EntryValues}
use Rattle.shapes.specs.Floods.{some_pass}

abbrev pub best : (ℤ → ℤ → Bool) → (Cell → ℤ) → List Cell → ℤ
best beats f [] = pos 0
best beats f (x ∷ xs) = best_of beats (f x) (map f xs)

abbrev pub greatest : (Cell → ℤ) → List Cell → ℤ
greatest f s = best (λ x y. int_lt y x) f s

abbrev pub least : (Cell → ℤ) → List Cell → ℤ
least f s = best int_lt f s

abbrev pub extent : (Cell → ℤ) → List Cell → ℤ
extent f s = (greatest f s -ℤ least f s) +ℤ pos 1

abbrev pub fits : ℕ → ℕ → ℕ → EntryValues → Bool
fits w h d e =
    int_le (extent (λ x. x.a) e.cells) (pos w) && (int_le (extent (λ x. x.b) e.cells) (pos h) && int_le (extent (λ x. x.c) e.cells) (pos d))

abbrev pub has_all : List ℕ → List ℕ → Bool
has_all gs hs = list_all (λ g. some_pass (nat_eq g) hs) gs
