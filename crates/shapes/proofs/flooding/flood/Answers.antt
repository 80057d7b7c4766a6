use Rattle.std.proofs.Common.{◌≡◌, suc, ◌<◌, List, length, sym, ap, ◌∙◌, subst, inl, inr, arith}
use Rattle.std.specs.List.{AllByRecursion}
use Rattle.ordered.specs.Rooms.{pushed}
use Rattle.ordered.proofs.Members.{all_in, all_from_in}
use Rattle.lattice.specs.declared.cell.Cell.{Cell}
use Rattle.lattice.specs.Cells.{origin, Within}
use Rattle.shapes.specs.Floods.{spread, flooded, same_cell}
use Rattle.shapes.specs.Members.{placement_cells}
use Rattle.shapes.specs.Positions.{neighbours}
use Rattle.shapes.specs.Shapes.{shape_cells}
use Rattle.shapes.proofs.Floods.{same_cell_equality, still_later, still_or_more, full_still, rounds_in, origin_kept}
use Rattle.shapes.proofs.ShapeFacts.{shape_position, shape_within}
use Rattle.shapes.proofs.flooding.flood.Goals as goal
use Rattle.shapes.proofs.flooding.flood.Goals.{then-count-cells-via-then-count-cells, then-count-cells-via-else-count-cells+then-count-size}

pub loop-k-init : goal.loop-k-init
loop-k-init g c = c.push.ensures.after ∙ ap (pushed 16 origin) c.new-cells.ensures ∙ origin_kept (shape_cells c.args.shape.now) (shape_position c.args.shape.now)

-- with a round that adds nothing, or nothing left to add, all rounds are done
pub returns-then-count-cells : goal.returns-then-count-cells
returns-then-count-cells g c =
    let s = shape_cells c.args.shape.now in
    let near = neighbours (g.L.Lattice.directions c.args.lattice.now) in
    let n = c.loop-k._k in
    let k : n < length s = omega (arith, c.size-k-end.ensures) in
    let now = placement_cells c.loop-k.reached in
    let next = placement_cells c.spread-next.result in
    let more : next ≡ flooded same_cell near origin s (suc n) = c.spread-next.ensures ∙ ap (spread same_cell near s) c.loop-k.invariant in
    elim c.then-count-cells.branch [
      | then-count-cells-via-then-count-cells w ↦
          let same : length next ≡ length now = omega (arith, w.if-count-cells.true, ap length c.cells-count.ensures.value, ap length c.cells.ensures.value) in
          elim (still_or_more same_cell same_cell_equality near origin s n) [
            | inl still ↦ more ∙ still ∙ sym (still_later same_cell same_cell_equality near origin s n (length s) still (omega arith))
            | inr l ↦ absurd (omega (arith, l, same, ap length more, ap length c.loop-k.invariant))
          ]
      | then-count-cells-via-else-count-cells+then-count-size w ↦
          let full : length (flooded same_cell near origin s (suc n)) ≡ length s = omega (arith, w.if-count-size.true, w.size.ensures, ap length c.cells-count.ensures.value, ap length more) in
          more ∙ sym (still_later same_cell same_cell_equality near origin s (suc n) (length s) (full_still same_cell same_cell_equality near origin s (suc n) full) (omega arith))
    ]

pub spread-next-requires : goal.spread-next-requires
spread-next-requires g c =
    let s = shape_cells c.args.shape.now in
    let near = neighbours (g.L.Lattice.directions c.args.lattice.now) in
    record { near = subst (λ (r : List Cell). AllByRecursion (Within 15) r) (sym c.loop-k.invariant) (all_from_in (Within 15) _ (λ x h. all_in (Within 15) s (shape_within c.args.shape.now) x (rounds_in same_cell same_cell_equality near origin s c.loop-k._k x h))) }
