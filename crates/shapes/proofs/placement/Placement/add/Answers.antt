use Rattle.std.proofs.Common.{ap, ◌∙◌}
use Rattle.ordered.specs.Lookups.{inserted, after_insertion}
use Rattle.ordered.proofs.Slots.{inserted_anyway}
use Rattle.lattice.specs.Cells.{cell_less}
use Rattle.shapes.specs.Members.{placement_cells}
use Rattle.shapes.proofs.placement.Placement.add.Goals as goal

pub returns : goal.returns
returns c =
    let xs = placement_cells c.args.self.now in
    let x = c.args.x in
    c.insert.ensures.after ∙ ap (λ r. after_insertion r (inserted cell_less x xs) xs) c.insert.ensures.value ∙ inserted_anyway cell_less x 16 xs (λ k e. c.requires)
