use Rattle.std.proofs.Common.{◌≡◌, List, [], ◌∷◌, map, length, get_or, refl, ap, ◌∙◌, subst, arith, rules}
use Rattle.std.proofs.lemmas.List.{take_all}
use Rattle.lattice.specs.declared.cell.Cell.{Cell}
use Rattle.lattice.specs.Cells.{minus}
use Rattle.shapes.specs.Members.{placement_cells}
use Rattle.shapes.specs.Positions.{shifted}
use Rattle.shapes.proofs.images.from_the_first.Goals as goal

by_first : (xs : List Cell) (x : Cell) → x ≡ get_or xs 0 x → map (λ y. minus y x) xs ≡ shifted xs
by_first [] x e = refl
by_first (z ∷ zs) x e = ap (λ w. map (λ y. minus y w) (z ∷ zs)) e

pub returns-after-loop-x : goal.returns-after-loop-x
returns-after-loop-x c =
    let p = placement_cells c.args.placement.now in
    let f = c.in-Some.first.now in
    let first = subst (λ xs. f ≡ get_or xs 0 f) c.cells.ensures.value (search rules) in
    c.loop-x.invariant
    ∙ ap (map (λ y. minus y f)) (take_all c.loop-x.x-index p (omega (arith, ap length c.cells-x-items.ensures.value, c.loop-x-test.false)))
    ∙ by_first p f first
