-- Total orders, given as a test of which of two items is less, and the lists that they order. Assumes nothing.
--     StrictTotal less           the test is a strict total order
--     rank less x y              how x compares with y
--     Ascending less xs          each item of xs is less than every later one
--     comparison less xs ys      how the list xs compares with ys: the lesser item at the first difference decides,
--                                and a beginning is less than the whole
use Rattle.std.specs.Prelude.{◌≡◌, Bool, true, cond, List, [], ◌∷◌, ◌≢◌}
use Rattle.std.specs.declared.cmp.Ordering.TheVariants.{Less, Equal, Greater}
use Rattle.std.specs.declared.cmp.Ordering.{Ordering}
use Rattle.std.specs.Ordering.{is_lt, ordering_then}
use Rattle.ordered.specs.Members.{In}

pub record StrictTotal {X : Type 0} (less : X → X → Bool) : Type 0 where
  pub irreflexive : (x : X) → less x x ≢ true
  pub transitive : (x y z : X) → less x y ≡ true → less y z ≡ true → less x z ≡ true
  pub trichotomous : (x y : X) → (less x y ≢ true) → (less y x ≢ true) → x ≡ y

abbrev pub rank : {X : Type 0} → (X → X → Bool) → X → X → Ordering
rank less x y = cond (less x y) Less (cond (less y x) Greater Equal)

abbrev pub Ascending : {X : Type 0} → (X → X → Bool) → List X → Type 0
Ascending less [] = Unit {0}
Ascending {X} less (x ∷ xs) = ((y : X) → In y xs → less x y ≡ true) × Ascending less xs

abbrev pub comparison : {X : Type 0} → (X → X → Bool) → List X → List X → Ordering
comparison less [] [] = Equal
comparison less [] (y ∷ ys) = Less
comparison less (x ∷ xs) [] = Greater
comparison less (x ∷ xs) (y ∷ ys) = ordering_then (rank less x y) (comparison less xs ys)

-- the order of lists, as a test
abbrev pub list_less : {X : Type 0} → (X → X → Bool) → List X → List X → Bool
list_less less xs ys = is_lt (comparison less xs ys)
