use Rattle.std.proofs.Common.{ap, ◌∙◌}
use Rattle.shapes.specs.Faults.{arranged_or_fault}
use Rattle.walk.specs.Searches.{search_directions, shown}
use Rattle.listing.specs.Made.{shape_of}
use Rattle.listing.proofs.Shown.{shown_arranged, made_ok}
use Rattle.listing.proofs.listers.shown_shape.Goals as goal

pub unwrap-requires : goal.unwrap-requires
unwrap-requires c =
    let s = c.args.search.now in
    made_ok c.arranged.result (shape_of (search_directions s) (shown s)) (c.arranged.ensures ∙ ap arranged_or_fault c.cells.ensures ∙ shown_arranged s c.requires)
