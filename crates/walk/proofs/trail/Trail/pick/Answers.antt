use Rattle.std.proofs.Common.{get_or, set, sym, refl, ap, ◌∙◌, subst, arith}
use Rattle.lattice.specs.Cells.{origin, Within}
use Rattle.shapes.proofs.Bounds.{within_more}
use Rattle.walk.specs.CellsAround.{cells_around}
use Rattle.walk.specs.PlaceLists.{place_cells}
use Rattle.walk.specs.Places.{spread}
use Rattle.walk.specs.Trails.{ways}
use Rattle.walk.proofs.Around.{place_within, within_all_pass}
use Rattle.walk.proofs.Trails.{places_short, places_near, turned_picks}
use Rattle.walk.proofs.trail.Trail.pick.Goals as goal

pub spread-requires : goal.spread-requires
spread-requires c =
    let t = c.args.self.now in
    let d = t.directions in
    let ds = ways t in
    let P = place_cells t.places in
    record {
      near =
          subst (Within 100) (sym c.get-from.ensures)
          (within_more t.depth 100 (get_or P t.next origin) (omega arith) (place_within t.depth P t.next (places_near ds t c.requires.sound (within_all_pass 1 ds d.short))));
      room = omega (arith, places_short ds t c.requires.sound d.few);
    }

pub returns : goal.returns
returns c =
    let t = c.args.self.now in
    let ds = ways t in
    let P = place_cells t.places in
    turned_picks ds t c.requires.sound _ c.requires.here refl refl refl refl
    (ap (set t.cells t.depth) c.get-from.ensures)
    c.requires.more refl c.requires.hidden
    (ap (set t.lengths t.depth) c.len.ensures)
    (c.spread.ensures ∙ ap (spread (cells_around ds) P) c.get-from.ensures)
