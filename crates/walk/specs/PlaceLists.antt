-- The lists that values stand for. Assumes nothing.
--     place_cells p       the cells on the place list p
--     directions_in d     the directions held by d
--     pick_numbers p      the places picked by p
--     picked r            the places picked, if there is a pick list
use Rattle.std.specs.Prelude.{ℕ, List, take, Some, None, Option}
use Rattle.ordered.specs.Items.{items_of}
use Rattle.lattice.specs.declared.cell.Cell.{Cell}
use Rattle.walk.specs.declared.place_list.PlaceList.{PlaceList}
use Rattle.walk.specs.declared.direction_list.DirectionList.{DirectionList}
use Rattle.walk.specs.declared.pick_list.PickList.{PickList}

abbrev pub place_cells : PlaceList → List Cell
place_cells p = take p.len p.cells

abbrev pub directions_in : DirectionList → List Cell
directions_in d = items_of d.cells

abbrev pub pick_numbers : PickList → List ℕ
pick_numbers p = items_of p.picks

abbrev pub picked : Option PickList → Option (List ℕ)
picked None = None
picked (Some p) = Some (pick_numbers p)
