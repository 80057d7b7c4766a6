-- Connected sets, over any type of cells with neighbours. Assumes nothing.
--     Reached near start s x      x is reached from the start by steps to neighbours, and all the way, its two ends among it, lies in s
--     Connected near start s      every cell of s is so reached
use Rattle.std.specs.Prelude.{◌≡◌, List}
use Rattle.ordered.specs.Members.{In}

pub data Reached {X : Type 0} (near : X → List X) (start : X) (s : List X) : X → Type 0 where
  at_start : {x : X} → x ≡ start → In x s → Reached near start s x
  onward : {x y : X} → Reached near start s x → In y (near x) → In y s → Reached near start s y

abbrev pub Connected : {X : Type 0} → (X → List X) → X → List X → Type 0
Connected {X} near start s = (x : X) → In x s → Reached near start s x
