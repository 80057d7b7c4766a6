-- What cells without a fault are: in normal position, in reach, 1 to 16; and so of the cells of a shape. The steps of looking for a fault.
use Rattle.std.proofs.Common.{◌≡◌, ℕ, suc, ◌+◌, ◌<◌, ◌≤◌, Bool, true, false, cond, ◌&&◌, leb, List, [], ◌∷◌, length, get_or, drop, is_some, Some, None, Ok, Err, Option, sym, refl, ap, ◌∙◌, subst, inl, inr, add-one, arith}
use Rattle.std.specs.Ordering.{is_eq}
use Rattle.std.specs.List.{AllByRecursion}
use Rattle.std.proofs.lemmas.Bool.{true≢false, and_parts, and_from, cond-true, leb-true, le-leb}
use Rattle.std.proofs.lemmas.List.{at_drop_all, drop_more}
use Rattle.std.proofs.ByRecursion.{All-weaker}
use Rattle.ordered.specs.Members.{In}
use Rattle.ordered.specs.Orders.{Ascending, rank}
use Rattle.ordered.proofs.Orders.{is_equal, same_rank, equal_rank}
use Rattle.lattice.specs.declared.cell.Cell.{Cell}
use Rattle.lattice.specs.Cells.{origin, cell_less, Within, in_reach}
use Rattle.lattice.specs.Coordinates.{cell_order, within_says}
use Rattle.shapes.specs.declared.shape.Shape.{Shape}
use Rattle.shapes.specs.declared.shape_fault.ShapeFault.{ShapeFault}
use Rattle.shapes.specs.declared.shape_fault.ShapeFault.TheVariants.{Count, Reach, Order}
use Rattle.shapes.specs.Faults.{follows, cell_fault, or_later, first_fault, shape_fault, unless}
use Rattle.shapes.specs.Positions.{NormalPosition}
use Rattle.shapes.specs.Shapes.{shape_cells}
use Rattle.shapes.proofs.Bounds.{within_test}

-- ---- one cell
module _ (i : ℕ) (before : Option Cell) (x : Cell) (xs : List Cell) where
  -- a cell that is admitted leaves the fault to the others
  fault_later : (y : Cell) → Ok y ≡ unless x (cell_fault i before x) → (y ≡ x) × (first_fault i before (x ∷ xs) ≡ first_fault (suc i) (Some y) xs)
  fault_later y e = go (cell_fault i before x) e
    where
      go : (f : Option ShapeFault) → Ok y ≡ unless x f → (y ≡ x) × (or_later f (first_fault (suc i) (Some x) xs) ≡ first_fault (suc i) (Some y) xs)
      go None e = let h : y ≡ x = cc in (h, ap (λ z. first_fault (suc i) (Some z) xs) (sym h))
      go (Some f) e = (cc, cc)

  fault_here : (f : ShapeFault) → Err f ≡ unless x (cell_fault i before x) → first_fault i before (x ∷ xs) ≡ Some f
  fault_here f e = go (cell_fault i before x) e
    where
      go : (g : Option ShapeFault) → Err f ≡ unless x g → or_later g (first_fault (suc i) (Some x) xs) ≡ Some f
      go None e = cc
      go (Some g) e = cc

  cell_says : is_some (cell_fault i before x) ≡ false → (in_reach x ≡ true) × (follows before x ≡ true)
  cell_says e = go (in_reach x) (follows before x) e
    where
      go : (p q : Bool) → is_some (cond p (cond q None (Some (Order i))) (Some (Reach i))) ≡ false → (p ≡ true) × (q ≡ true)
      go true true e = (refl, refl)
      go true false e = absurd (true≢false e)
      go false q e = absurd (true≢false e)

  cell_none : in_reach x ≡ true → follows before x ≡ true → cell_fault i before x ≡ None
  cell_none p q = cond-true (in_reach x) _ _ p ∙ cond-true (follows before x) _ _ q

  first_says : is_some (first_fault i before (x ∷ xs)) ≡ false → (in_reach x ≡ true) × (follows before x ≡ true) × (is_some (first_fault (suc i) (Some x) xs) ≡ false)
  first_says e = let t = go (cell_fault i before x) (first_fault (suc i) (Some x) xs) e in let u = cell_says t.0 in (u.0, u.1, t.1)
    where
      go : (f g : Option ShapeFault) → is_some (or_later f g) ≡ false → (is_some f ≡ false) × (is_some g ≡ false)
      go None g e = (refl, e)
      go (Some f) g e = absurd (true≢false e)

  first_none : in_reach x ≡ true → follows before x ≡ true → first_fault (suc i) (Some x) xs ≡ None → first_fault i before (x ∷ xs) ≡ None
  first_none p q r = ap (λ f. or_later f (first_fault (suc i) (Some x) xs)) (cell_none p q) ∙ r

-- the cell w that is read at place i of xs
module _ (i : ℕ) (before : Option Cell) (xs : List Cell) (w : Cell) (l : i < length xs) (e : w ≡ get_or xs i origin) where
  rest : drop i xs ≡ w ∷ drop (i + 1) xs
  rest = drop_more xs i origin l ∙ ap (λ z. z ∷ drop (i + 1) xs) (sym e)

  pub read_later : (y : Cell) → Ok y ≡ unless w (cell_fault i before w) → (y ≡ get_or xs i origin) × (first_fault (i + 1) (Some y) (drop (i + 1) xs) ≡ first_fault i before (drop i xs))
  read_later y h =
      let t = fault_later i before w (drop (i + 1) xs) y h in
      (t.0 ∙ e, ap (λ n. first_fault n (Some y) (drop (i + 1) xs)) (add-one i) ∙ sym t.1 ∙ ap (first_fault i before) (sym rest))

  pub read_fault : (f : ShapeFault) → Err f ≡ unless w (cell_fault i before w) → first_fault i before (drop i xs) ≡ Some f
  read_fault f h = ap (first_fault i before) rest ∙ fault_here i before w (drop (i + 1) xs) f h

-- ---- no fault
later_says : (i : ℕ) (y : Cell) (xs : List Cell) → is_some (first_fault i (Some y) xs) ≡ false → Ascending cell_less (y ∷ xs) × AllByRecursion (λ x. in_reach x ≡ true) xs
later_says i y [] e = ((λ z h. absurd h, tt), tt)
later_says i y (x ∷ xs) e =
    let t = first_says i (Some y) x xs e in
    let r = later_says (suc i) x xs t.2 in
    ((λ z h. go z t.1 r.0.0 h, r.0), (t.0, r.1))
  where
    go : (z : Cell) → cell_less y x ≡ true → ((w : Cell) → In w xs → cell_less x w ≡ true) → In z (x ∷ xs) → cell_less y z ≡ true
    go z l m (inl q) = subst (λ (w : Cell). cell_less y w ≡ true) (sym q) l
    go z l m (inr h) = cell_order.transitive y x z l (m z h)

later_none : (i : ℕ) (y : Cell) (xs : List Cell) → Ascending cell_less (y ∷ xs) → AllByRecursion (Within 15) xs → first_fault i (Some y) xs ≡ None
later_none i y [] a w = refl
later_none i y (x ∷ xs) a w = first_none i (Some y) x xs (within_test 15 x w.0) (a.0 x (inl refl)) (later_none (suc i) x xs a.1 w.1)

count_says : (xs : List Cell) → is_some (shape_fault xs) ≡ false → (1 ≤ length xs) × (length xs ≤ 16) × (is_some (first_fault 0 None xs) ≡ false)
count_says xs e = go (leb 1 (length xs) && leb (length xs) 16) refl e
  where
    go : (b : Bool) → (leb 1 (length xs) && leb (length xs) 16) ≡ b → is_some (cond b (first_fault 0 None xs) (Some Count)) ≡ false → (1 ≤ length xs) × (length xs ≤ 16) × (is_some (first_fault 0 None xs) ≡ false)
    go true h e = let t = and_parts (leb 1 (length xs)) (leb (length xs) 16) h in (leb-true 1 (length xs) t.0, leb-true (length xs) 16 t.1, e)
    go false h e = absurd (true≢false e)

pub fault_counted : (xs : List Cell) → 1 ≤ length xs → length xs ≤ 16 → shape_fault xs ≡ first_fault 0 None xs
fault_counted xs l m = cond-true (leb 1 (length xs) && leb (length xs) 16) _ _ (and_from (leb 1 (length xs)) (leb (length xs) 16) (le-leb 1 (length xs) l) (le-leb (length xs) 16 m))

pub sound_position : (xs : List Cell) → is_some (shape_fault xs) ≡ false → NormalPosition xs
sound_position [] e = absurd (true≢false e)
sound_position (x ∷ xs) e =
    let t = first_says 0 None x xs (count_says (x ∷ xs) e).2 in
    record { ascending = (later_says 1 x xs t.2).0; from_origin = same_rank cell_less cell_order x origin (is_equal (rank cell_less x origin) t.1) }

pub sound_reach : (xs : List Cell) → is_some (shape_fault xs) ≡ false → AllByRecursion (λ x. in_reach x ≡ true) xs
sound_reach [] e = tt
sound_reach (x ∷ xs) e = let t = first_says 0 None x xs (count_says (x ∷ xs) e).2 in (t.0, (later_says 1 x xs t.2).1)

pub sound_length : (xs : List Cell) → is_some (shape_fault xs) ≡ false → (1 ≤ length xs) × (length xs ≤ 16)
sound_length xs e = let t = count_says xs e in (t.0, t.1)

-- cells in normal position and in reach, 1 to 16 of them, have no fault
pub no_fault : (xs : List Cell) → NormalPosition xs → 1 ≤ length xs → length xs ≤ 16 → AllByRecursion (Within 15) xs → shape_fault xs ≡ None
no_fault [] p l m w = absurd p.from_origin
no_fault (x ∷ xs) p l m w =
    fault_counted (x ∷ xs) l m
    ∙ first_none 0 None x xs (within_test 15 x w.0) (ap is_eq (equal_rank cell_less cell_order x origin p.from_origin)) (later_none 1 x xs p.ascending w.1)

-- ---- a shape
pub shape_position : (s : Shape) → NormalPosition (shape_cells s)
shape_position s = sound_position (shape_cells s) s.sound

pub shape_reach : (s : Shape) → AllByRecursion (λ x. in_reach x ≡ true) (shape_cells s)
shape_reach s = sound_reach (shape_cells s) s.sound

pub shape_within : (s : Shape) → AllByRecursion (Within 15) (shape_cells s)
shape_within s = All-weaker (λ x. in_reach x ≡ true) (Within 15) (λ x h. within_says 15 x h) (shape_cells s) (shape_reach s)

pub shape_some : (s : Shape) → 1 ≤ length (shape_cells s)
shape_some s = (sound_length (shape_cells s) s.sound).0

pub shape_few : (s : Shape) → length (shape_cells s) ≤ 16
shape_few s = (sound_length (shape_cells s) s.sound).1

-- ---- when all are read
pub read_none : (xs : List Cell) (i : ℕ) (before : Option Cell) → i ≡ length xs → 1 ≤ length xs → length xs ≤ 16 → first_fault i before (drop i xs) ≡ first_fault 0 None xs → shape_fault xs ≡ None
read_none xs i before e l m h = fault_counted xs l m ∙ sym h ∙ at_drop_all (first_fault i before) xs i (omega arith)
