-- The refusals, by number. Assumes nothing.
--     refusal_number e      the number of the refusal e
--     answer f r            a call's result r, its value as f reads it and its refusal by number
use Rattle.std.specs.Prelude.{ℕ, Ok, Err, Result}
use Rattle.lattice.specs.declared.refusal.Refusal.{Refusal}
use Rattle.lattice.specs.declared.refusal.Refusal.TheVariants.{Size, Kind, Name, Reach, Order, Through, Buffer, Records, Form, Content}

abbrev pub refusal_number : Refusal → ℕ
refusal_number Size = 1
refusal_number Kind = 2
refusal_number Name = 3
refusal_number Reach = 4
refusal_number Order = 5
refusal_number Through = 6
refusal_number Buffer = 7
refusal_number Records = 8
refusal_number Form = 9
refusal_number Content = 10

abbrev pub answer : {X Y : Type 0} → (X → Y) → Result X Refusal → Result Y ℕ
answer f (Ok x) = Ok (f x)
answer f (Err e) = Err (refusal_number e)
