-- Members of a shape as calls tell them, with any set of motion numbers. Assumes nothing.
--     placement_cells p       the cells of the placement p
--     member_under ms g s     the image of s under motion g as the lattice tells it, in normal position
--     usable ms gs            those of the numbers gs that the lattice with the motions ms has
--     firsts same xs          the items of xs, in their order, that are not the same as an earlier one
--     first_motions ms gs s   the numbers gs, in their order, that give a member of s which no earlier one gives
--     orientations ms gs s    each of these numbers with its member
--     orbit_list o            the orientations in the orbit o
--     oriented o              the orientation o as a motion's number and a list of cells
use Rattle.std.specs.Prelude.{ℕ, Bool, not, List, [], ◌∷◌, map, length, filter, nat_lt}
use Rattle.ordered.specs.Items.{items_of}
use Rattle.lattice.specs.declared.cell.Cell.{Cell}
use Rattle.lattice.specs.Matrices.{Matrix}
use Rattle.lattice.specs.Lattices.{image_under}
use Rattle.shapes.specs.declared.orbit.Orbit.{Orbit}
use Rattle.shapes.specs.declared.orientation.Orientation.{Orientation}
use Rattle.shapes.specs.declared.placement.Placement.{Placement}
use Rattle.shapes.specs.Classes.{same_cells, moved}
use Rattle.shapes.specs.Positions.{normal}

abbrev pub placement_cells : Placement → List Cell
placement_cells p = items_of p.cells

abbrev pub member_under : List Matrix → ℕ → List Cell → List Cell
member_under ms g s = normal (map (image_under ms g) s)

abbrev pub usable : List Matrix → List ℕ → List ℕ
usable ms gs = filter (λ g. nat_lt g (length ms)) gs

abbrev pub firsts : {X : Type 0} → (X → X → Bool) → List X → List X
firsts same [] = []
firsts same (x ∷ xs) = x ∷ filter (λ y. not (same x y)) (firsts same xs)

abbrev pub first_motions : List Matrix → List ℕ → List Cell → List ℕ
first_motions ms gs s = firsts (λ g h. same_cells (moved ms g s) (moved ms h s)) gs

abbrev pub orientations : List Matrix → List ℕ → List Cell → List (ℕ × List Cell)
orientations ms gs s = map (λ g. (g, moved ms g s)) (first_motions ms gs s)

abbrev pub orbit_list : Orbit → List Orientation
orbit_list o = items_of o.orientations

abbrev pub oriented : Orientation → ℕ × List Cell
oriented o = (o.motion, placement_cells o.placement)
