-- What is printed. Assumes nothing.
--     spaced text xs     the texts of the items xs, parted by spaces, if each has one
--     cell_text x        the coordinates of x, parted by commas
--     shape_text s       the cells of the shape s, parted by spaces
use Rattle.std.specs.Prelude.{ℕ, List, [], ◌∷◌, ◌++◌, Some, Option}
use Rattle.std.specs.Fmt.{◌++?◌, signed_decimal}
use Rattle.lattice.specs.declared.cell.Cell.{Cell}
use Rattle.shapes.specs.declared.shape.Shape.{Shape}
use Rattle.shapes.specs.Shapes.{shape_cells}

-- each behind a space
abbrev pub behind_spaces : {X : Type 0} → (X → Option (List ℕ)) → List X → Option (List ℕ)
behind_spaces text [] = Some []
behind_spaces text (x ∷ xs) = (Some (32 ∷ []) ++? text x) ++? behind_spaces text xs

abbrev pub spaced : {X : Type 0} → (X → Option (List ℕ)) → List X → Option (List ℕ)
spaced text [] = Some []
spaced text (x ∷ xs) = text x ++? behind_spaces text xs

abbrev pub cell_text : Cell → Option (List ℕ)
cell_text x = Some (signed_decimal x.a ++ (44 ∷ signed_decimal x.b) ++ (44 ∷ signed_decimal x.c))

abbrev pub shape_text : Shape → Option (List ℕ)
shape_text s = spaced cell_text (shape_cells s)
