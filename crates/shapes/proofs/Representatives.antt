-- The representative of a class: a member of a connected shape is a shape, and the least is taken one motion after another.
use Rattle.std.proofs.Common.{◌≡◌, ℕ, ◌+◌, ◌<◌, ◌≤◌, Bool, cond, ltb, List, [], ◌∷◌, ◌++◌, map, length, get_or, take, None, ap, ◌∙◌, arith}
use Rattle.std.specs.List.{best_of}
use Rattle.std.proofs.lemmas.List.Elements.{filter_more}
use Rattle.std.proofs.lemmas.List.{append-nil, map_push}
use Rattle.std.proofs.lemmas.List.Sums.{fold_push}
use Rattle.std.proofs.lemmas.Bool.{lt-ltb, le-ltb}
use Rattle.ordered.proofs.Members.{all_from_in}
use Rattle.lattice.specs.declared.cell.Cell.{Cell}
use Rattle.lattice.specs.Cells.{origin, Within}
use Rattle.lattice.specs.Matrices.{Matrix}
use Rattle.lattice.specs.Lattices.{motion, Rules}
use Rattle.shapes.specs.Classes.{cells_less, moved, least_member}
use Rattle.shapes.specs.Connected.{Connected}
use Rattle.shapes.specs.Faults.{shape_fault}
use Rattle.shapes.specs.Members.{usable}
use Rattle.shapes.specs.Positions.{neighbours, NormalPosition}
use Rattle.shapes.proofs.Moved.{image_position, moved_length, moved_connected}
use Rattle.shapes.proofs.Reach.{connected_within}
use Rattle.shapes.proofs.ShapeFacts.{no_fault}

pub moved_no_fault : {name : List ℕ} {ds : List Cell} {ms : List Matrix} {os : ℕ → Bool} → Rules name ds ms os → (g : ℕ) → g < length ms → (s : List Cell) → NormalPosition s → 1 ≤ length s → length s ≤ 16 → Connected (neighbours ds) origin s → shape_fault (moved ms g s) ≡ None
moved_no_fault {ds = ds} {ms = ms} R g l s p m n con =
    let t = moved ms g s in
    let k : length t ≡ length s = moved_length R g l s p in
    let few : length t ≤ 15 + 1 = omega arith in
    no_fault t (image_position (motion ms g) s p) (omega arith) (omega arith) (all_from_in (Within 15) t (connected_within ds t 15 R.directions_short (moved_connected R g l origin s con) few))

-- ---- one motion more
module _ (ms : List Matrix) (gs : List ℕ) (i : ℕ) (l : i < length gs) (s : List Cell) where
  abbrev before : List Cell
  before = least_member ms (usable ms (take i gs)) s

  pub least_skip : length ms ≤ get_or gs i 0 → least_member ms (usable ms (take (i + 1) gs)) s ≡ before
  least_skip h = ap (λ ks. least_member ms ks s) (filter_more (λ g. ltb g (length ms)) gs i 0 l ∙ ap (λ b. usable ms (take i gs) ++ cond b (get_or gs i 0 ∷ []) []) (le-ltb (get_or gs i 0) (length ms) h) ∙ append-nil (usable ms (take i gs)))

  pub least_take : get_or gs i 0 < length ms → least_member ms (usable ms (take (i + 1) gs)) s ≡ cond (cells_less (moved ms (get_or gs i 0) s) before) (moved ms (get_or gs i 0) s) before
  least_take h =
      ap (λ ks. least_member ms ks s) (filter_more (λ g. ltb g (length ms)) gs i 0 l ∙ ap (λ b. usable ms (take i gs) ++ cond b (get_or gs i 0 ∷ []) []) (lt-ltb (get_or gs i 0) (length ms) h))
      ∙ ap (best_of cells_less s) (map_push (λ g. moved ms g s) (usable ms (take i gs)) (get_or gs i 0))
      ∙ fold_push (λ b x. cond (cells_less x b) x b) s (map (λ g. moved ms g s) (usable ms (take i gs))) (moved ms (get_or gs i 0) s)
