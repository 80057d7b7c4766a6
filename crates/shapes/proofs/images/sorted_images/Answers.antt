use Rattle.std.proofs.Common.{◌≡◌, map, length, get_or, sym, ap, ◌∙◌, arith}
use lib.ListN.{length-map}
use Rattle.std.proofs.lemmas.List.{get_or-map}
use Rattle.ordered.proofs.Lookups.{length_inserted_le}
use Rattle.lattice.specs.Cells.{origin, cell_less}
use Rattle.shapes.specs.Members.{placement_cells}
use Rattle.shapes.proofs.Sorting.{one_more}
use Rattle.shapes.proofs.images.sorted_images.Goals as goal

pub loop-x-preserved : goal.loop-x-preserved
loop-x-preserved g c =
    let ys = placement_cells c.loop-x.placement in
    let xs = c.args.cells.now in
    let i = c.loop-x.x-index in (
      omega (arith, ap length c.add.ensures, length_inserted_le cell_less c.image.result ys, c.loop-x.invariant.0),
      λ f is.
          let at : c.image.result ≡ get_or (map f xs) i origin = is _ _ c.image.ensures ∙ sym (get_or-map f xs i origin origin c.loop-x-test.true) in
          c.add.ensures ∙ one_more (map f xs) ys i (c.loop-x.invariant.1 f is) c.image.result (omega (arith, length-map xs f)) at,
    )
