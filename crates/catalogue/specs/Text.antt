-- The text of a catalogue, as bytes. Each line ends with byte 10, and its fields are parted by tabs. Assumes nothing.
--     tabbed t                    the field t behind a tab
--     cell_text x                 the coordinates of the cell x, parted by commas
--     cells_text s                the cells s, parted by one space
--     motions_text gs             the motion numbers gs, parted by one space
--     heading_line name n kind    L, the lattice's name, the size and the word of the kind
--     record_line k e             P, the number k, and the cells, stabiliser and orbit size of the entry e
--     closing_line k n            E, the number of entries and the sum of their orbit sizes
use Rattle.std.specs.Prelude.{ℕ, List, [], ◌∷◌, ◌++◌, map, decimal}
use Rattle.std.specs.List.{join_with_byte}
use Rattle.std.specs.Fmt.{signed_decimal}
use Rattle.lattice.specs.declared.cell.Cell.{Cell}
use Rattle.shapes.specs.Entries.{EntryValues}

abbrev pub tabbed : List ℕ → List ℕ
tabbed t = 9 ∷ t

abbrev pub cell_text : Cell → List ℕ
cell_text x = signed_decimal x.a ++ (44 ∷ signed_decimal x.b) ++ (44 ∷ signed_decimal x.c)

abbrev pub cells_text : List Cell → List ℕ
cells_text s = join_with_byte 32 (map cell_text s)

abbrev pub motions_text : List ℕ → List ℕ
motions_text gs = join_with_byte 32 (map decimal gs)

abbrev pub heading_line : List ℕ → ℕ → List ℕ → List ℕ
heading_line name n kind = (76 ∷ []) ++ tabbed name ++ tabbed (decimal n) ++ tabbed kind ++ (10 ∷ [])

abbrev pub record_line : ℕ → EntryValues → List ℕ
record_line k e = (80 ∷ []) ++ tabbed (decimal k) ++ tabbed (cells_text e.cells) ++ tabbed (motions_text e.motions) ++ tabbed (decimal e.orbit_size) ++ (10 ∷ [])

abbrev pub closing_line : ℕ → ℕ → List ℕ
closing_line k n = (69 ∷ []) ++ tabbed (decimal k) ++ tabbed (decimal n) ++ (10 ∷ [])
