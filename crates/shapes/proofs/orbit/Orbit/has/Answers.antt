use Rattle.std.proofs.Common.{◌≡◌, ℕ, ◌+◌, ◌<◌, Bool, false, ◌||◌, List, length, get_or, drop, sym, ap, ◌∙◌, arith}
use Rattle.std.specs.Ordering.{is_eq}
use Rattle.std.proofs.lemmas.List.{at_drop_more}
use Rattle.ordered.specs.Orders.{comparison}
use Rattle.lattice.specs.declared.cell.Cell.{Cell}
use Rattle.lattice.specs.Cells.{cell_less}
use Rattle.shapes.specs.declared.orientation.Orientation.{Orientation}
use Rattle.shapes.specs.Classes.{same_cells}
use Rattle.shapes.specs.Floods.{some_pass}
use Rattle.shapes.specs.Members.{placement_cells, orbit_list}
use Rattle.shapes.proofs.orbit.Orbit.has.Goals as goal

-- what is left, by its first item
next : (p : Orientation → Bool) (xs ys : List Orientation) (i : ℕ) (x : Orientation) (b : Bool) → ys ≡ xs → i < length ys → x ≡ get_or ys i x → p x ≡ b → some_pass p (drop i xs) ≡ (b || some_pass p (drop (i + 1) xs))
next p xs ys i x b e h is t =
    let l : i < length xs = omega (arith, ap length e) in
    at_drop_more (some_pass p) xs i x l ∙ ap (λ (c : Bool). c || some_pass p (drop (i + 1) xs)) (ap p (ap (λ (zs : List Orientation). get_or zs i x) (sym e) ∙ sym is) ∙ t)

pub loop-orientation-preserved : goal.loop-orientation-preserved
loop-orientation-preserved c =
    let cells = c.args.cells.now in
    let p : Orientation → Bool = λ o. same_cells (placement_cells o.placement) cells in
    let x = c.orientation-item.result in
    let test : p x ≡ false = ap (λ (l : List Cell). is_eq (comparison cell_less l cells)) (sym c.cells.ensures.value) ∙ ap is_eq (sym c.compare.ensures.value) ∙ sym c.if-is_eq.ensures in
    sym (next p (orbit_list c.args.self.now) c.as_slice-orientation-items.result.now c.loop-orientation.orientation-index x false c.as_slice-orientation-items.ensures c.loop-orientation-test.true c.orientation-item.is test) ∙ c.loop-orientation.invariant
