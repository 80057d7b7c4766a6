use Rattle.std.proofs.Common.{◌<◌, length, get_or, sym, ap, ◌∙◌, arith, rules}
use Rattle.std.proofs.lemmas.List.{drop_all}
use Rattle.ordered.proofs.Members.{in_get_or}
use Rattle.lattice.specs.Cells.{origin}
use Rattle.shapes.specs.Positions.{neighbours}
use Rattle.walk.specs.CellsAround.{cells_around}
use Rattle.walk.specs.PlaceLists.{place_cells, directions_in}
use Rattle.walk.specs.Places.{put_all}
use Rattle.walk.proofs.Around.{sum_is, within_all_pass, spread_is}
use Rattle.walk.proofs.place_list.PlaceList.spread.Goals as goal

pub unwrap-requires : goal.unwrap-requires
unwrap-requires c =
    let d = c.args.directions.now in
    let ds = directions_in d in
    let k = c.loop-step.step-index in
    let l : k < length ds = omega (arith, ap length c.as_slice-step-items.ensures.value) in
    let short = within_all_pass 1 ds d.short (get_or ds k origin) (in_get_or ds k origin l) in
    rw (sum_is c.args.from (get_or ds k origin) c.checked_add.result c.requires.near short (rw c.as_slice-step-items.ensures.value at c.checked_add.ensures)) (search rules)

pub returns : goal.returns
returns c =
    let ds = directions_in c.args.directions.now in
    let P = place_cells c.loop-step.self in
    sym (ap (λ es. put_all (cells_around ds) P (neighbours es c.args.from)) (drop_all c.loop-step.step-index ds (omega (arith, ap length c.as_slice-step-items.ensures.value))))
    ∙ c.loop-step.invariant.1
    ∙ sym (spread_is ds (place_cells c.args.self.now) c.args.from)
