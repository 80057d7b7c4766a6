-- What a walk asks of its cells, over any type of cells. Assumes nothing.
--     Neighbourhood X      an equality test, the neighbours of a cell in a fixed order, which cells are above the start, and the start
--     on g xs x            the test that x is one of xs
--     Rooted g S           the cells of S are all different, the start is one of them, and the others are above it
--     SameItems xs ys      the two lists have the same items
--     Begins xs ys         ys is xs with more at its end, or with no more
use Rattle.std.specs.Prelude.{◌≡◌, Bool, true, false, ◌||◌, ◌⊎◌, ◌↔◌, List, [], ◌∷◌, ◌++◌}
use Rattle.ordered.specs.Members.{In, NoRepeats}

pub record Neighbourhood (X : Type 0) : Type 0 where
  pub same : X → X → Bool
  pub same_sound : (x y : X) → same x y ≡ true → x ≡ y
  pub same_refl : (x : X) → same x x ≡ true
  pub near : X → List X
  pub above : X → Bool
  pub start : X

abbrev pub on : {X : Type 0} → Neighbourhood X → List X → X → Bool
on g [] x = false
on g (y ∷ ys) x = g.same x y || on g ys x

pub record Rooted {X : Type 0} (g : Neighbourhood X) (S : List X) : Type 0 where
  pub differ : NoRepeats S
  pub has_start : In g.start S
  pub others_above : (x : X) → In x S → (x ≡ g.start) ⊎ (g.above x ≡ true)

abbrev pub SameItems : {X : Type 0} → List X → List X → Type 0
SameItems {X} xs ys = (x : X) → In x xs ↔ In x ys

abbrev pub Begins : {X : Type 0} → List X → List X → Type 0
Begins {X} xs ys = (more : List X) × (ys ≡ xs ++ more)
