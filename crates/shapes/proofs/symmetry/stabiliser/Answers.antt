use Rattle.std.proofs.Common.{◌≡◌, ℕ, ◌<◌, true, false, ltb, List, ◌∷◌, length, get_or, take, filter, sym, ap, ◌∙◌, arith}
use Rattle.std.proofs.lemmas.List.{take_all}
use Rattle.std.proofs.lemmas.Bool.{and_parts, ltb-true, lt-ltb, cond-true}
use Rattle.ordered.specs.Lookups.{inserted, sorted}
use Rattle.lattice.specs.Kinds.{set_motions}
use Rattle.shapes.specs.Classes.{same_cells, moved, stabiliser_of}
use Rattle.shapes.specs.Members.{usable}
use Rattle.shapes.specs.Shapes.{shape_cells}
use Rattle.shapes.proofs.Members.{closed_usable, stays, sorted_kept_yes, sorted_kept_no, stabiliser_is}
use Rattle.shapes.proofs.ShapeFacts.{shape_position}
use Rattle.shapes.proofs.symmetry.stabiliser.Goals as goal
use Rattle.shapes.proofs.symmetry.stabiliser.Goals.{then-keeps, else-keeps}

pub loop-motion-preserved : goal.loop-motion-preserved
unfolding stays
loop-motion-preserved g c =
    let l = c.args.lattice.now in
    let ms = g.L.Lattice.motions l in
    let s = shape_cells c.args.shape.now in
    let gs = set_motions c.args.set.now in
    let i = c.loop-motion.motion-index in
    let h : i < length gs = omega (arith, ap length c.as_slice-motion-items.ensures) in
    let item : get_or c.as_slice-motion-items.result.now i 0 ≡ get_or gs i 0 = ap (λ (l : List ℕ). get_or l i 0) c.as_slice-motion-items.ensures in
    elim c.if-keeps.branch [
      | then-keeps w ↦
          let yes : stays ms s (get_or gs i 0) ≡ true = ap (stays ms s) (sym item) ∙ sym w.if-keeps.ensures in
          let small : get_or gs i 0 < 48 = omega (arith, (g.L.Lattice.rules l).few_motions, ltb-true _ _ (and_parts (ltb (get_or gs i 0) (length ms)) (same_cells (moved ms (get_or gs i 0) s) s) yes).0) in
          ap set_motions w.found-is ∙ w.insert.ensures.after ∙ cond-true (ltb _ 48) _ _ (ap (λ (k : ℕ). ltb k 48) item ∙ lt-ltb (get_or gs i 0) 48 small) ∙ ap (λ (k : ℕ). inserted ltb k (set_motions c.loop-motion.found)) item ∙ ap (inserted ltb (get_or gs i 0)) c.loop-motion.invariant ∙ sym (sorted_kept_yes (stays ms s) gs i h yes)
      | else-keeps w ↦
          let no : stays ms s (get_or gs i 0) ≡ false = ap (stays ms s) (sym item) ∙ sym w.if-keeps.ensures in
          ap set_motions w.found-is ∙ c.loop-motion.invariant ∙ sym (sorted_kept_no (stays ms s) gs i h no)
    ]

pub returns : goal.returns
returns g c =
    let l = c.args.lattice.now in
    let ms = g.L.Lattice.motions l in
    let s = shape_cells c.args.shape.now in
    let set = c.args.set.now in
    let i = c.loop-motion.motion-index in
    let all : take i (set_motions set) ≡ set_motions set = take_all i (set_motions set) (omega (arith, ap length c.as_slice-motion-items.ensures, c.loop-motion-test.false)) in
    let e : set_motions c.loop-motion.found ≡ stabiliser_of ms (usable ms (set_motions set)) s = c.loop-motion.invariant ∙ ap (λ (gs : List ℕ). sorted ltb (0 ∷ filter (stays ms s) gs)) all ∙ stabiliser_is (g.L.Lattice.rules l) set s (shape_position c.args.shape.now) in
    record { value = e; closed = λ C. e ∙ ap (λ (gs : List ℕ). stabiliser_of ms gs s) (closed_usable ms (set_motions set) C) }
