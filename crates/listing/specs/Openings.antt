-- What a lister is opened by. Assumes nothing.
--     Opening                        the directions and motions of a lattice, the numbers of the motions of the kind, and the size
--     opening_for ds ms os n k       the opening for the size n and the kind with the number k, on the lattice with the directions ds, the
--                                    motions ms and the one-sided set os; refused by 1 if n is 0 or over 16, then by 2 if there is no such kind
--     Opened x r P                   r is the answer of an opening that x gives: a value of which P holds, or the refusal with that number
use Rattle.std.specs.Prelude.{◌≡◌, ℕ, Bool, cond, ◌&&◌, List, Ok, Err, Result, nat_le}
use Rattle.lattice.specs.declared.cell.Cell.{Cell}
use Rattle.lattice.specs.declared.refusal.Refusal.{Refusal}
use Rattle.lattice.specs.Kinds.{numbered_motions}
use Rattle.lattice.specs.Matrices.{Matrix}
use Rattle.lattice.specs.Refusals.{refusal_number}

pub record Opening : Type 0 where
  pub directions : List Cell
  pub motions : List Matrix
  pub set : List ℕ
  pub size : ℕ

abbrev pub opening : List Cell → List Matrix → ℕ → List ℕ → Opening
opening ds ms n gs = record { directions = ds; motions = ms; set = gs; size = n }

-- the opening with the set told, or the refusal told
abbrev pub with_set : List Cell → List Matrix → ℕ → Result (List ℕ) ℕ → Result Opening ℕ
with_set ds ms n (Ok gs) = Ok (opening ds ms n gs)
with_set ds ms n (Err e) = Err e

abbrev pub opening_for : List Cell → List Matrix → (ℕ → Bool) → ℕ → ℕ → Result Opening ℕ
opening_for ds ms os n k = cond (nat_le 1 n && nat_le n 16) (with_set ds ms n (numbered_motions ms os k)) (Err 1)

abbrev pub Opened : {X : Type 0} → Result Opening ℕ → Result X Refusal → (X → Opening → Type 0) → Type 0
Opened (Ok o) (Ok x) P = P x o
Opened (Ok o) (Err e) P = ⊥
Opened (Err n) (Ok x) P = ⊥
Opened (Err n) (Err e) P = refusal_number e ≡ n
