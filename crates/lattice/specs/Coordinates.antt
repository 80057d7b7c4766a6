-- Proofs that cells are the same where their coordinates are, that they are totally ordered, and what the test `within` says.
-- They define nothing that a contract means.
use Rattle.std.specs.Prelude.{◌≡◌, ℕ, Bool, true, false, ◌&&◌, T, ℤ, pos, neg_ℤ, ◌≤ℤ◌, int_le, int_lt}
use Rattle.std.proofs.Common.{Ordering, Less, Equal, Greater, refl, sym, ap, ◌∙◌, arith}
use Rattle.std.specs.Int.Signed.{le_z_yes}
use Rattle.std.proofs.lemmas.Int.{ints}
use Rattle.std.proofs.lemmas.Bool.{and_parts, false≢true}
use Rattle.std.specs.Ordering.{int_cmp, on, ordering_then, then_cmp}
use Rattle.ordered.specs.Orders.{StrictTotal, rank}
use Rattle.ordered.proofs.Orders.{list_order, rank_list}
use Rattle.lattice.specs.declared.cell.Cell.{Cell}
use Rattle.lattice.specs.Cells.{coordinates, cell_less, Within, from_to, within}

pub cell_same : (x y : Cell) → x.a ≡ y.a → x.b ≡ y.b → x.c ≡ y.c → x ≡ y
cell_same x y p q r = λ i. record { a = p i; b = q i; c = r i }

pub coordinates_same : (x y : Cell) → coordinates x ≡ coordinates y → x ≡ y
coordinates_same x y e = cell_same x y (cc) (cc) (cc)

pub whole_order : StrictTotal int_lt
whole_order = record {
  irreflexive = λ x h. grind (arith, ints);
  transitive = λ x y z h k. grind (arith, ints);
  trichotomous = λ x y h k. grind (arith, ints);
}

pub cell_order : StrictTotal cell_less
cell_order =
    let lists = list_order int_lt whole_order in
    record {
      irreflexive = λ x. lists.irreflexive (coordinates x);
      transitive = λ x y z. lists.transitive (coordinates x) (coordinates y) (coordinates z);
      trichotomous = λ x y h k. coordinates_same x y (lists.trichotomous (coordinates x) (coordinates y) h k);
    }

-- the comparison by the coordinates in turn is the rank in this order
pub cell_ranked : (x y : Cell) → then_cmp (on (λ z. z.c) int_cmp) (then_cmp (on (λ z. z.b) int_cmp) (on (λ z. z.a) int_cmp)) x y ≡ rank cell_less x y
cell_ranked x y =
    ap (λ o. ordering_then (int_cmp x.c y.c) (ordering_then (int_cmp x.b y.b) o)) (sym (to_the_end (int_cmp x.a y.a)))
    ∙ rank_list int_lt whole_order (coordinates x) (coordinates y)
  where
    to_the_end : (o : Ordering) → ordering_then o Equal ≡ o
    to_the_end Less = refl
    to_the_end Equal = refl
    to_the_end Greater = refl

-- ---- within bounds
true_T : (b : Bool) → b ≡ true → T b
true_T true e = tt
true_T false e = false≢true e

from_to_says : (r : ℕ) (z : ℤ) → from_to r z ≡ true → (neg_ℤ (pos r) ≤ℤ z) × (z ≤ℤ pos r)
from_to_says r z e =
    let t = and_parts (int_le (neg_ℤ (pos r)) z) (int_le z (pos r)) e in
    (le_z_yes (true_T (int_le (neg_ℤ (pos r)) z) t.0), le_z_yes (true_T (int_le z (pos r)) t.1))

pub within_says : (r : ℕ) (x : Cell) → within r x ≡ true → Within r x
within_says r x e =
    let p = and_parts (from_to r x.a) (from_to r x.b && from_to r x.c) e in
    let q = and_parts (from_to r x.b) (from_to r x.c) p.1 in
    let a = from_to_says r x.a p.0 in
    let b = from_to_says r x.b q.0 in
    let c = from_to_says r x.c q.1 in
    (a.0, a.1, b.0, b.1, c.0, c.1)
