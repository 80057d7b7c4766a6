-- What an insertion into the first slots leaves, by its answer.
use Rattle.std.proofs.Common.{◌≡◌, ℕ, ◌+◌, ◌<◌, ◌≤◌, Bool, true, false, ltb, List, length, take, drop, sym, refl, ap, ◌∙◌, arith, length-take, length-drop, length-append, Ok, Err, Result}
use lib.Seq.{take-append_seam, drop-append_seam}
use Rattle.std.proofs.lemmas.Bool.{ltb-true, ltb-false, lt-ltb}
use Rattle.ordered.specs.declared.insert.NotInserted.TheVariants.{Present, Full}
use Rattle.ordered.specs.Lookups.{lookup, inserted, answered, insertion, insertion_at, after_insertion, over}
use Rattle.ordered.proofs.Lookups.{inserted_found, length_inserted_absent}

-- what each answer tells of the lookup and of the room
placed_from : (room : Bool) (r : Result ℕ ℕ) (k : ℕ) → Ok k ≡ answered room r → (r ≡ Err k) × (room ≡ true)
placed_from room (Ok j) k e = (cc, cc)
placed_from true (Err j) k e = (cc, refl)
placed_from false (Err j) k e = (cc, cc)

present_from : (room : Bool) (r : Result ℕ ℕ) (k : ℕ) → Err (Present k) ≡ answered room r → r ≡ Ok k
present_from room (Ok j) k e = cc
present_from true (Err j) k e = cc
present_from false (Err j) k e = cc

full_from : (room : Bool) (r : Result ℕ ℕ) → Err Full ≡ answered room r → (room ≡ false) × ((k : ℕ) × (r ≡ Err k))
full_from room (Ok j) e = (cc, (0, cc))
full_from true (Err j) e = (cc, (j, refl))
full_from false (Err j) e = (refl, (j, refl))

module _ {X : Type 0} (less : X → X → Bool) (x : X) (n : ℕ) (slots : List X) where
  pub present_same : (k : ℕ) → Err (Present k) ≡ insertion less x n slots → inserted less x (take n slots) ≡ take n slots
  present_same k e = inserted_found less x (take n slots) k (present_from (ltb n (length slots)) (lookup less x (take n slots)) k e)

  pub full_room : Err Full ≡ insertion less x n slots → length slots ≤ n
  full_room e = ltb-false n (length slots) (full_from (ltb n (length slots)) (lookup less x (take n slots)) e).0

  pub full_absent : Err Full ≡ insertion less x n slots → (k : ℕ) × (lookup less x (take n slots) ≡ Err k)
  full_absent e = (full_from (ltb n (length slots)) (lookup less x (take n slots)) e).1

  module _ (k : ℕ) (e : Ok k ≡ insertion less x n slots) where
    told : (lookup less x (take n slots) ≡ Err k) × (ltb n (length slots) ≡ true)
    told = placed_from (ltb n (length slots)) (lookup less x (take n slots)) k e

    pub placed_room : n < length slots
    placed_room = ltb-true n (length slots) told.1

    -- one item more
    pub placed_count : length (inserted less x (take n slots)) ≡ n + 1
    placed_count = let r : n < length slots = placed_room in length_inserted_absent less x (take n slots) k told.0 ∙ simp length-take (omega arith)

    pub placed_list : take (n + 1) (over (inserted less x (take n slots)) slots) ≡ inserted less x (take n slots)
    placed_list = ap (λ m. take m (over (inserted less x (take n slots)) slots)) (sym placed_count) ∙ take-append_seam (inserted less x (take n slots)) (drop (length (inserted less x (take n slots))) slots)

    pub placed_rest : drop (n + 1) (over (inserted less x (take n slots)) slots) ≡ drop (n + 1) slots
    placed_rest =
        ap (λ m. drop m (over (inserted less x (take n slots)) slots)) (sym placed_count)
        ∙ drop-append_seam (inserted less x (take n slots)) (drop (length (inserted less x (take n slots))) slots)
        ∙ ap (λ m. drop m slots) placed_count

    pub placed_length : length (over (inserted less x (take n slots)) slots) ≡ length slots
    placed_length =
        let r : n < length slots = placed_room in
        let l = placed_count in
        simp (length-append, length-drop) (omega arith)

-- an insertion into a list with room leaves the new list, also where the item is there
pub inserted_anyway : {X : Type 0} (less : X → X → Bool) (x : X) (n : ℕ) (xs : List X) → ((k : ℕ) → lookup less x xs ≡ Err k → length xs < n) → after_insertion (insertion_at less x n xs) (inserted less x xs) xs ≡ inserted less x xs
inserted_anyway {X} less x n xs room = go (lookup less x xs) refl
  where
    go : (r : Result ℕ ℕ) → lookup less x xs ≡ r → after_insertion (answered (ltb (length xs) n) r) (inserted less x xs) xs ≡ inserted less x xs
    go (Ok k) e = sym (inserted_found less x xs k e)
    go (Err k) e = rw (lt-ltb (length xs) n (room k e))
