use Rattle.std.proofs.Common.{◌≡◌, ℕ, Bool, true, false, ◌&&◌, ltb, List, length, get_or, take, sym, ap, ◌∙◌, subst, arith}
use Rattle.std.proofs.lemmas.List.{take_all}
use Rattle.std.proofs.lemmas.Bool.{both_ways}
use Rattle.ordered.specs.Members.{In}
use Rattle.ordered.proofs.Members.{in_get_or}
use Rattle.lattice.specs.declared.cell.Cell.{Cell}
use Rattle.lattice.specs.Kinds.{set_motions, Closed}
use Rattle.lattice.specs.Matrices.{Matrix}
use Rattle.shapes.specs.Classes.{same_cells, cells_less, moved, least_member}
use Rattle.shapes.specs.Members.{usable}
use Rattle.shapes.specs.Shapes.{shape_cells}
use Rattle.shapes.proofs.Members.{closed_usable, none_more, none_makes_less, one_makes_less}
use Rattle.shapes.proofs.least.is_least.Goals as goal

pub loop-motion-preserved : goal.loop-motion-preserved
loop-motion-preserved g c =
    let ms = g.L.Lattice.motions c.args.lattice.now in
    let s = shape_cells c.args.shape.now in
    let gs = set_motions c.args.set.now in
    let i = c.loop-motion.motion-index in
    let here : (ltb (get_or gs i 0) (length ms) && cells_less (moved ms (get_or gs i 0) s) s) ≡ false = ap (λ (l : List ℕ). ltb (get_or l i 0) (length ms) && cells_less (moved ms (get_or l i 0) s) s) (sym c.as_slice-motion-items.ensures) ∙ sym c.if-makes_less.ensures in
    none_more (λ k. (ltb k (length ms) && cells_less (moved ms k s) s) ≡ true) gs i (omega (arith, ap length c.as_slice-motion-items.ensures)) c.loop-motion.invariant (both_ways (ltb (get_or gs i 0) (length ms) && cells_less (moved ms (get_or gs i 0) s) s) here)

-- for a closed set the numbers that the lattice has are all of them
both : (ms : List Matrix) (gs : List ℕ) (s : List Cell) (r : Bool) → r ≡ same_cells (least_member ms (usable ms gs) s) s → record { value : r ≡ same_cells (least_member ms (usable ms gs) s) s; closed : Closed ms gs → r ≡ same_cells (least_member ms gs s) s }
both ms gs s r e = record { value = e; closed = λ C. e ∙ ap (λ (l : List ℕ). same_cells (least_member ms l s) s) (closed_usable ms gs C) }

pub returns-then-makes_less : goal.returns-then-makes_less
returns-then-makes_less g c =
    let ms = g.L.Lattice.motions c.args.lattice.now in
    let s = shape_cells c.args.shape.now in
    let gs = set_motions c.args.set.now in
    let i = c.loop-motion.motion-index in
    let here : (ltb (get_or gs i 0) (length ms) && cells_less (moved ms (get_or gs i 0) s) s) ≡ true = ap (λ (l : List ℕ). ltb (get_or l i 0) (length ms) && cells_less (moved ms (get_or l i 0) s) s) (sym c.as_slice-motion-items.ensures) ∙ sym c.if-makes_less.ensures in
    both ms gs s false (sym (one_makes_less ms gs s (get_or gs i 0) (in_get_or gs i 0 (omega (arith, ap length c.as_slice-motion-items.ensures))) here))

pub returns : goal.returns
returns g c =
    let ms = g.L.Lattice.motions c.args.lattice.now in
    let s = shape_cells c.args.shape.now in
    let gs = set_motions c.args.set.now in
    let i = c.loop-motion.motion-index in
    let all : take i gs ≡ gs = take_all i gs (omega (arith, ap length c.as_slice-motion-items.ensures, c.loop-motion-test.false)) in
    both ms gs s true (sym (none_makes_less ms gs s (λ k q. c.loop-motion.invariant k (subst (In k) (sym all) q))))
