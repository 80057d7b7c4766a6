-- The end of a list, and what stands before it. Assumes nothing.
--     Ends xs ys       ys is an end of xs
--     before xs ys     what of xs stands before the end ys
use Rattle.std.specs.Prelude.{◌≡◌, ◌-◌, List, length, take, drop}

abbrev pub Ends : {X : Type 0} → List X → List X → Type 0
Ends xs ys = ys ≡ drop (length xs - length ys) xs

abbrev pub before : {X : Type 0} → List X → List X → List X
before xs ys = take (length xs - length ys) xs
