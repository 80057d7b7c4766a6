use Rattle.std.proofs.Common.{◌<◌, length, get_or, sym, ap, ◌∙◌, subst, inl, inr, arith}
use Rattle.ordered.specs.Items.{items_of}
use Rattle.ordered.proofs.Rooms.{pushed_behind}
use Rattle.lattice.specs.Cells.{origin, Within}
use Rattle.shapes.proofs.Bounds.{within_more}
use Rattle.walk.specs.CellsAround.{cells_around}
use Rattle.walk.specs.Neighbourhoods.{on}
use Rattle.walk.specs.PlaceLists.{place_cells, directions_in}
use Rattle.walk.specs.Places.{spread}
use Rattle.walk.proofs.Around.{on_any, place_within, within_all_pass}
use Rattle.walk.proofs.WalkTurns.{midway_first, midway_picks, midway_passes, midway_same, midway_ends}
use Rattle.walk.proofs.walking.walk.Goals as goal
use Rattle.walk.proofs.walking.walk.Goals.{then-contains, else-contains}

pub loop-places-init : goal.loop-places-init
loop-places-init c = midway_first (directions_in c.args.directions.now) c.args.wanted.now _ _ c.new-picks.ensures c.new-places.ensures

pub spread-requires : goal.spread-requires
spread-requires c =
    let P = place_cells c.loop-places.places in
    let i = c.loop-places.place in
    let n = length (items_of c.loop-places.picks) in
    let now = c.loop-places.invariant in
    record {
      near = subst (Within 100) (sym c.get-x.ensures) (within_more n 100 (get_or P i origin) (omega (arith, now.few, c.requires)) (place_within n P i now.reach));
      room = omega (arith, now.short, now.few, c.len.ensures.value, c.requires);
    }

pub loop-places-preserved : goal.loop-places-preserved
loop-places-preserved c =
    let d = c.args.directions.now in
    let ds = directions_in d in
    let S = c.args.wanted.now in
    let P = place_cells c.loop-places.places in
    let p = items_of c.loop-places.picks in
    let i = c.loop-places.place in
    let now = c.loop-places.invariant in
    let here : i < length P = omega arith in
    let more : length p < length S = omega (arith, c.len.ensures.value) in
    elim c.if-contains.branch [
      | then-contains w ↦
          midway_picks ds S P p i now _ _ d.few (within_all_pass 1 ds d.short) here more
          (ap (on (cells_around ds) S) (sym c.get-x.ensures) ∙ (sym (on_any ds S _) ∙ (sym c.contains.ensures.value ∙ w.if-contains.true)))
          (ap place_cells w.places-is ∙ w.spread.ensures ∙ ap (spread (cells_around ds) P) c.get-x.ensures)
          (ap items_of w.picks-is ∙ w.push.ensures.after ∙ pushed_behind 16 i p (omega (arith, more, c.requires)))
      | else-contains w ↦
          midway_same ds S P _ p _ _ (ap place_cells w.places-is) (ap items_of w.picks-is)
          (midway_passes ds S P p i now here (ap (on (cells_around ds) S) (sym c.get-x.ensures) ∙ (sym (on_any ds S _) ∙ (sym c.contains.ensures.value ∙ w.if-contains.false))))
    ]

pub returns-else-place-len : goal.returns-else-place-len
returns-else-place-len c =
    midway_ends (directions_in c.args.directions.now) c.args.wanted.now (place_cells c.loop-places.places) (items_of c.loop-places.picks) c.loop-places.place c.loop-places.invariant
    (inr (omega (arith, c.if-place-len.false, c.len-in-loop-places.ensures)))

pub returns-after-loop-places : goal.returns-after-loop-places
returns-after-loop-places c =
    midway_ends (directions_in c.args.directions.now) c.args.wanted.now (place_cells c.loop-places.places) (items_of c.loop-places.picks) c.loop-places.place c.loop-places.invariant
    (inl (omega (arith, c.loop-places-test.false, c.len.ensures.value)))
