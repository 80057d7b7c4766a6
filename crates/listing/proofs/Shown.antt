-- The shape that a search shows.
use Rattle.std.proofs.Common.{◌≡◌, ℕ, ◌≤◌, leb, List, length, Ok, Err, Result, refl, ap, ◌∙◌, arith}
use Rattle.std.specs.List.{AllByRecursion}
use Rattle.std.specs.Result.{IsOk}
use Rattle.std.proofs.lemmas.Bool.{le-leb, cond-true}
use Rattle.ordered.proofs.Members.{all_from_in}
use Rattle.lattice.specs.Cells.{Within}
use Rattle.shapes.specs.declared.shape.Shape.{Shape}
use Rattle.shapes.specs.declared.shape_fault.ShapeFault.{ShapeFault}
use Rattle.shapes.specs.declared.shape_fault.ShapeFault.TheVariants.{Count}
use Rattle.shapes.specs.Faults.{unless, shape_or_fault, arranged_or_fault}
use Rattle.shapes.specs.Shapes.{made}
use Rattle.lattice.specs.declared.cell.Cell.{Cell}
use Rattle.walk.specs.declared.search.Search.{Search}
use Rattle.walk.specs.CellsAround.{cells_around}
use Rattle.walk.specs.Lawful.{Lawful}
use Rattle.walk.specs.Places.{first_places, cells_of}
use Rattle.walk.specs.Searches.{search_directions, search_size, shown}
use Rattle.walk.proofs.Around.{within_all_pass}
use Rattle.walk.proofs.Sound.{length_cells}
use Rattle.listing.specs.Made.{shape_of}
use Rattle.listing.proofs.Made.{lawful_no_fault}

pub size_some : (s : Search) → 1 ≤ search_size s
size_some s = omega (arith, s.trail.deep)

pub shown_arranged : (s : Search) → Lawful (cells_around (search_directions s)) (search_size s) (shown s) → arranged_or_fault (cells_of (cells_around (search_directions s)) (shown s)) ≡ Ok (shape_of (search_directions s) (shown s))
shown_arranged s h =
    let ds = search_directions s in
    let g = cells_around ds in
    let short : AllByRecursion (Within 1) ds = all_from_in (Within 1) ds (within_all_pass 1 ds s.trail.directions.short) in
    let few : length (cells_of g (shown s)) ≤ 16 = omega (arith, length_cells g (first_places g) (shown s), h.0, s.trail.few) in
    cond-true (leb (length (cells_of g (shown s))) 16) (shape_or_fault (shape_of ds (shown s))) (Err Count) (le-leb _ _ few)
    ∙ ap (unless (shape_of ds (shown s))) (lawful_no_fault ds (search_size s) (shown s) short (size_some s) s.trail.few h)

-- what was made with these cells is a shape
pub made_ok : (r : Result Shape ShapeFault) (s : List Cell) → made r ≡ Ok s → IsOk r
made_ok (Ok x) s e = refl
made_ok (Err f) s e = let z : ◌≡◌ {A = ℕ} 0 1 = cc in absurd (omega arith)
