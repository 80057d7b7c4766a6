-- The list is what `find` searched, and turning the part by one moves the new item to its place.
use Rattle.std.proofs.Common.{◌≡◌, ℕ, suc, ◌+◌, ◌-◌, ◌<◌, ◌≤◌, min, Bool, ltb, ◌⊎◌, List, [], ◌∷◌, ◌++◌, length, take, drop, set, sym, refl, ap, ◌∙◌, ap₂, inl, inr, append_assoc, arith, rules, Ok, Err, Result}
use borrow.Rule.Slice.PartMut.{put_mid}
use Rattle.std.proofs.lemmas.List.{length-drop, length-take, length-take-le, length_push, take_all, take_at, drop_at, take-append-le, drop-append-le, set_split}
use Rattle.std.proofs.lemmas.Bool.{cases_lt, cond-true, cond-false, lt-ltb, le-ltb}
use Rattle.ordered.specs.declared.insert.NotInserted.TheVariants.{Full}
use Rattle.ordered.specs.Lookups.{lookup, inserted, answered, insertion, over}
use Rattle.ordered.proofs.Lookups.{absent_within, inserted_absent, length_inserted_absent}
use Rattle.ordered.proofs.Ascending.{inserted_ascending}
use Rattle.ordered.proofs.insert.insert.Goals as goal

take_used : {X : Type 0} (xs : List X) (count used : ℕ) → used ≡ min count (length xs) → take used xs ≡ take count xs
take_used xs count used e = go (cases_lt count (length xs))
  where
    go : (count < length xs) ⊎ (length xs ≤ count) → take used xs ≡ take count xs
    go (inl h) = ap (λ n. take n xs) (omega arith)
    go (inr h) = take_all used xs (omega arith) ∙ sym (take_all count xs h)

abbrev rotated : {X : Type 0} → List X → List X
rotated xs = drop (length xs - 1) xs ++ take (length xs - 1) xs

rotated_push : {X : Type 0} (xs : List X) (x : X) → rotated (xs ++ x ∷ []) ≡ x ∷ xs
rotated_push xs x =
    let n : length xs ≡ length (xs ++ x ∷ []) - 1 = omega (arith, length_push xs x) in
    ap₂ ◌++◌ (drop_at xs (x ∷ []) (length (xs ++ x ∷ []) - 1) n) (take_at xs (x ∷ []) (length (xs ++ x ∷ []) - 1) n)

-- writing x behind the first n slots, and turning the part from k on by one
rotated_in : {X : Type 0} (slots self : List X) (n k : ℕ) (x : X) → n < length slots → k ≤ n → self ≡ rotated (take (n + 1 - k) (drop k (set slots n x))) → put_mid k (n + 1 - k) (set slots n x) self ≡ (take k (take n slots) ++ x ∷ drop k (take n slots)) ++ drop (suc n) slots
rotated_in {X} slots self n k x room le s =
    let front : List X = drop k (take n slots) in
    let behind : List X = drop (suc n) slots in
    let l : length (take n slots) ≡ n = length-take-le n slots (omega arith) in
    let m : length (front ++ x ∷ []) ≡ n + 1 - k = omega (arith, length_push front x, length-drop k (take n slots)) in
    let split : set slots n x ≡ take n slots ++ x ∷ behind = set_split slots n x room in
    let rest : drop k (set slots n x) ≡ (front ++ x ∷ []) ++ behind = ap (drop k) split ∙ drop-append-le k (take n slots) (x ∷ behind) (omega arith) ∙ sym (append_assoc front (x ∷ []) behind) in
    let same : self ≡ x ∷ front = s ∙ ap rotated (ap (take (n + 1 - k)) rest ∙ take_at (front ++ x ∷ []) behind (n + 1 - k) m) ∙ rotated_push front x in
    let after : drop (n + 1 - k) (drop k (set slots n x)) ≡ behind = ap (drop (n + 1 - k)) rest ∙ drop_at (front ++ x ∷ []) behind (n + 1 - k) m in
    let before : take k (set slots n x) ≡ take k (take n slots) = ap (take k) split ∙ take-append-le k (take n slots) (x ∷ behind) (omega arith) in
    ap₂ ◌++◌ before (ap₂ ◌++◌ same after) ∙ sym (append_assoc (take k (take n slots)) (x ∷ front) behind)

module _ {X : Type 0} (less : X → X → Bool) (x : X) (slots : List X) (count used : ℕ) (e : used ≡ min count (length slots)) where
  listed : take (used - 0) slots ≡ take count slots
  listed = ap (λ n. take n slots) (omega arith) ∙ take_used slots count used e

  searched : (r : Result ℕ ℕ) → r ≡ lookup less x (take (used - 0) slots) → answered (ltb count (length slots)) r ≡ insertion less x count slots
  searched r h = ap (answered (ltb count (length slots))) (h ∙ ap (lookup less x) listed)

  module _ (k : ℕ) (h : Err k ≡ lookup less x (take (used - 0) slots)) where
    absent : lookup less x (take count slots) ≡ Err k
    absent = ap (lookup less x) (sym listed) ∙ sym h

    place : k ≤ used
    place = omega (arith, absent_within less x (take count slots) k absent, length-take count slots)

    full : used ≡ length slots → Err Full ≡ insertion less x count slots
    full l = sym (cond-false (ltb count (length slots)) (Ok k) (Err Full) (le-ltb count (length slots) (omega arith))) ∙ searched (Err k) h

    placed : (used ≡ length slots → ⊥) → Ok k ≡ insertion less x count slots
    placed l = sym (cond-true (ltb count (length slots)) (Ok k) (Err Full) (lt-ltb count (length slots) (omega arith))) ∙ searched (Err k) h

    moved : (self : List X) → (used ≡ length slots → ⊥) → self ≡ rotated (take (used + 1 - k) (drop k (set slots used x))) → put_mid k (used + 1 - k) (set slots used x) self ≡ over (inserted less x (take count slots)) slots
    moved self l s =
        let at = rotated_in slots self used k x (omega arith) place s in
        let n : length (inserted less x (take count slots)) ≡ suc used = omega (arith, length_inserted_absent less x (take count slots) k absent, length-take count slots) in
        let list = take_used slots count used e in
        let new = inserted_absent less x (take count slots) k absent in
        cc

pub returns-then-used-slots : goal.returns-then-used-slots
returns-then-used-slots g c = record {
  answer = full g.T.TotalOrder.less c.args.item c.args.slots.now c.args.count c.min-used.result (omega arith) c.in-Err.at c.in-Err.ensures c.if-used-slots.true;
  after = refl;
  ascends = inserted_ascending g.T.TotalOrder.less g.met.T.TotalOrder.total c.args.item (take c.args.count c.args.slots.now);
}

pub offset_bounds-slots-at : goal.offset_bounds-slots-at
offset_bounds-slots-at g c =
    let h = place g.T.TotalOrder.less c.args.item c.args.slots.now c.args.count c.min-used.result (omega arith) c.in-Err.at c.in-Err.ensures in
    search rules

pub slice_bounds-rotate_right-count : goal.slice_bounds-rotate_right-count
slice_bounds-rotate_right-count g c =
    let h = place g.T.TotalOrder.less c.args.item c.args.slots.now c.args.count c.min-used.result (omega arith) c.in-Err.at c.in-Err.ensures in
    omega arith

pub slice_bounds-rotate_right-start : goal.slice_bounds-rotate_right-start
slice_bounds-rotate_right-start g c =
    let h = place g.T.TotalOrder.less c.args.item c.args.slots.now c.args.count c.min-used.result (omega arith) c.in-Err.at c.in-Err.ensures in
    search rules

pub rotate_right-requires : goal.rotate_right-requires
rotate_right-requires g c =
    let h = place g.T.TotalOrder.less c.args.item c.args.slots.now c.args.count c.min-used.result (omega arith) c.in-Err.at c.in-Err.ensures in
    search rules

pub returns-in-Ok : goal.returns-in-Ok
returns-in-Ok g c = record {
  answer = searched g.T.TotalOrder.less c.args.item c.args.slots.now c.args.count c.min-used.result (omega arith) (Ok c.in-Ok.at) c.in-Ok.ensures;
  after = refl;
  ascends = inserted_ascending g.T.TotalOrder.less g.met.T.TotalOrder.total c.args.item (take c.args.count c.args.slots.now);
}

pub returns-else-used-slots : goal.returns-else-used-slots
returns-else-used-slots g c = record {
  answer = placed g.T.TotalOrder.less c.args.item c.args.slots.now c.args.count c.min-used.result (omega arith) c.in-Err.at c.in-Err.ensures c.if-used-slots.false;
  after = moved g.T.TotalOrder.less c.args.item c.args.slots.now c.args.count c.min-used.result (omega arith) c.in-Err.at c.in-Err.ensures c.rotate_right.new.self c.if-used-slots.false c.rotate_right.ensures.after;
  ascends = inserted_ascending g.T.TotalOrder.less g.met.T.TotalOrder.total c.args.item (take c.args.count c.args.slots.now);
}
