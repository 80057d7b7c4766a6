use Rattle.std.proofs.Common.{ap, ◌∙◌, rules}
use Rattle.std.proofs.lemmas.List.{map-id}
use Rattle.ordered.specs.Lookups.{sorted}
use Rattle.lattice.specs.Cells.{cell_less}
use Rattle.shapes.proofs.placement.Placement.sorted.Goals as goal

pub returns : goal.returns
returns c = c.sorted_images.ensures (λ x. x) (λ x y t. search rules) ∙ ap (sorted cell_less) (map-id c.args.cells.now)
