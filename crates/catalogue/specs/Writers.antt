-- What the writers of the parts of a line leave in the buffer. Assumes nothing.
--     behind at bs xs         the buffer xs with bs written behind its first `at` bytes
--     led m ts                the texts ts in a row, the first behind the byte m, each other one behind a space
use Rattle.std.specs.Prelude.{ℕ, List, [], ◌∷◌, ◌++◌, take}
use Rattle.std.specs.List.{flat_map}
use Rattle.ordered.specs.Lookups.{over}

abbrev pub behind : ℕ → List ℕ → List ℕ → List ℕ
behind at bs xs = over (take at xs ++ bs) xs

abbrev pub led : ℕ → List (List ℕ) → List ℕ
led m [] = []
led m (t ∷ ts) = (m ∷ t) ++ flat_map (λ u. 32 ∷ u) ts
