use Rattle.std.proofs.Common.{◌≡◌, ◌+◌, ◌<◌, ◌≤◌, false, ◌||◌, length, get_or, drop, sym, ap, ◌∙◌, inl, inr, arith}
use Rattle.std.proofs.lemmas.Int.{ints}
use Rattle.std.proofs.lemmas.List.{at_drop_more, at_drop_all}
use Rattle.std.proofs.lemmas.Bool.{or_left, or_right, or_from, cases_Bool, both_ways}
use Rattle.ordered.proofs.Counting.{differ}
use Rattle.lattice.specs.declared.cell.Cell.{Cell}
use Rattle.lattice.specs.Cells.{origin, plus, minus}
use Rattle.lattice.specs.Coordinates.{cell_same}
use Rattle.shapes.specs.Floods.{some_pass, same_cell}
use Rattle.shapes.specs.Positions.{neighbours}
use Rattle.shapes.proofs.Bounds.{within_more}
use Rattle.shapes.proofs.Floods.{same_numbers, same_is, same_cell_equality}
use Rattle.shapes.proofs.flooding.is_at.Goals as goal

-- the step is d exactly where y is the sum
step_same : (x y d : Cell) → same_cell (minus y x) d ≡ same_cell y (plus x d)
step_same x y d = elim (cases_Bool (same_cell y (plus x d))) [
  | inl t ↦ let e = (same_cell_equality y (plus x d)).0 t in (same_cell_equality (minus y x) d).1 (cell_same _ _ (omega (arith, ints, ap (λ z. z.a) e)) (omega (arith, ints, ap (λ z. z.b) e)) (omega (arith, ints, ap (λ z. z.c) e))) ∙ sym t
  | inr f ↦ differ same_cell same_cell_equality (minus y x) d (λ e. both_ways _ f ((same_cell_equality y (plus x d)).1 (cell_same _ _ (omega (arith, ints, ap (λ z. z.a) e)) (omega (arith, ints, ap (λ z. z.b) e)) (omega (arith, ints, ap (λ z. z.c) e))))) ∙ sym f
]

-- the comparison by `==` tells it too
told : (x y d step : Cell) → step ≡ minus y x → same_numbers d step ≡ same_cell y (plus x d)
told x y d step e = same_is d step ∙ ap (λ s. same_cell s d) e ∙ step_same x y d

pub returns-then-eq-2 : goal.returns-then-eq-2
returns-then-eq-2 g c =
    let ds = g.L.Lattice.directions c.args.lattice.now in
    let k : c.loop-k.k < length ds = omega (arith, c.direction_count-k-end.ensures) in
    let x = c.args.x in
    let y = c.args.y in
    let test = sym c.if-eq-2.true ∙ c.eq-in-loop-k.ensures ∙ told x y c.direction.result c.difference-step.result c.difference-step.ensures ∙ ap (λ d. same_cell y (plus x d)) c.direction.ensures in
    let step = at_drop_more (λ l. some_pass (same_cell y) (neighbours l x)) ds c.loop-k.k origin k in
    sym (or_right (same_cell x y) (some_pass (same_cell y) (neighbours ds x)) (sym c.loop-k.invariant ∙ step ∙ or_left (same_cell y (plus x (get_or ds c.loop-k.k origin))) (some_pass (same_cell y) (neighbours (drop (c.loop-k.k + 1) ds) x)) (sym test)))

pub loop-k-preserved : goal.loop-k-preserved
loop-k-preserved g c =
    let ds = g.L.Lattice.directions c.args.lattice.now in
    let k : c.loop-k.k < length ds = omega (arith, c.direction_count-k-end.ensures) in
    let x = c.args.x in
    let y = c.args.y in
    let test = sym c.if-eq-2.false ∙ c.eq-in-loop-k.ensures ∙ told x y c.direction.result c.difference-step.result c.difference-step.ensures ∙ ap (λ d. same_cell y (plus x d)) c.direction.ensures in
    let step = at_drop_more (λ l. some_pass (same_cell y) (neighbours l x)) ds c.loop-k.k origin k in
    sym (step ∙ ap (λ b. b || some_pass (same_cell y) (neighbours (drop (c.loop-k.k + 1) ds) x)) (sym test)) ∙ c.loop-k.invariant

pub returns : goal.returns
returns g c =
    let ds = g.L.Lattice.directions c.args.lattice.now in
    let k : length ds ≤ c.loop-k.k = omega (arith, c.direction_count-k-end.ensures) in
    let x = c.args.x in
    let y = c.args.y in
    let other : same_cell x y ≡ false = sym (same_is y x) ∙ sym c.eq.ensures ∙ c.if-eq.false in
    sym (or_from (same_cell x y) (some_pass (same_cell y) (neighbours ds x)) other (sym c.loop-k.invariant ∙ at_drop_all (λ l. some_pass (same_cell y) (neighbours l x)) ds c.loop-k.k k))

pub difference-step-requires : goal.difference-step-requires
difference-step-requires g c = record { x_near = within_more 15 45 c.args.y (omega arith) c.requires.y_near; y_near = within_more 15 45 c.args.x (omega arith) c.requires.x_near }
