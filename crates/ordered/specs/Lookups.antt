-- Where an item stands in a list, or would go, and what an insertion leaves. Assumes nothing.
--     lookup less x xs              the first place of xs whose item is not less than x: Ok if that item is x, Err otherwise
--     inserted less x xs            xs with x put there, and xs itself if x is one of them
--     sorted less xs                the different items of xs, ascending: each is inserted in turn
--     answered room r               the answer of an insertion whose lookup is r, where room says whether there is room
--     insertion less x n slots      the answer of inserting x into the first n items of slots
--     insertion_at less x n xs      the answer of inserting x into the list xs, which has room for n items
--     after_insertion r new old     what an insertion that answers r leaves: the new list if it was done, the old one otherwise
--     over xs slots                 slots with its first items replaced by those of xs
--     slots_after r xs slots        what an insertion into slots that answers r leaves, where xs is the new list
use Rattle.std.specs.Prelude.{ℕ, suc, Bool, cond, List, [], ◌∷◌, ◌++◌, length, take, drop, nat_lt, Ok, Err, Result}
use Rattle.ordered.specs.declared.insert.NotInserted.{NotInserted}
use Rattle.ordered.specs.declared.insert.NotInserted.TheVariants.{Present, Full}

-- one place further on
abbrev pub further : Result ℕ ℕ → Result ℕ ℕ
further (Ok k) = Ok (suc k)
further (Err k) = Err (suc k)

abbrev pub lookup : {X : Type 0} → (X → X → Bool) → X → List X → Result ℕ ℕ
lookup less x [] = Err 0
lookup less x (y ∷ ys) = cond (less y x) (further (lookup less x ys)) (cond (less x y) (Err 0) (Ok 0))

abbrev pub inserted : {X : Type 0} → (X → X → Bool) → X → List X → List X
inserted less x [] = x ∷ []
inserted less x (y ∷ ys) = cond (less y x) (y ∷ inserted less x ys) (cond (less x y) (x ∷ y ∷ ys) (y ∷ ys))

abbrev pub sorted : {X : Type 0} → (X → X → Bool) → List X → List X
sorted less [] = []
sorted less (x ∷ xs) = inserted less x (sorted less xs)

-- an item that is there is present, room or not
abbrev pub answered : Bool → Result ℕ ℕ → Result ℕ NotInserted
answered room (Ok k) = Err (Present k)
answered room (Err k) = cond room (Ok k) (Err Full)

abbrev pub insertion : {X : Type 0} → (X → X → Bool) → X → ℕ → List X → Result ℕ NotInserted
insertion less x n slots = answered (nat_lt n (length slots)) (lookup less x (take n slots))

abbrev pub insertion_at : {X : Type 0} → (X → X → Bool) → X → ℕ → List X → Result ℕ NotInserted
insertion_at less x n xs = answered (nat_lt (length xs) n) (lookup less x xs)

abbrev pub after_insertion : {Y : Type 0} → Result ℕ NotInserted → Y → Y → Y
after_insertion (Ok k) new old = new
after_insertion (Err e) new old = old

abbrev pub over : {X : Type 0} → List X → List X → List X
over xs slots = xs ++ drop (length xs) slots

abbrev pub slots_after : {X : Type 0} → Result ℕ NotInserted → List X → List X → List X
slots_after r xs slots = after_insertion r (over xs slots) slots
