-- What lies behind the items of a list with a fixed room, after one item more.
use Rattle.std.proofs.Common.{◌≡◌, ℕ, ◌+◌, ◌-◌, List, [], ◌∷◌, ◌++◌, drop, set, replicate, sym, ap, ◌∙◌, arith, ◌<◌, ◌≤◌, length, Ok, Err, Result, is_ok, nat_lt, nat_le, rules}
use lib.ListN.{length-append, length-drop, length-replicate}
use Rattle.std.specs.Result.{IsOk}
use Rattle.std.proofs.lemmas.Bool.{le-leb, lt-ltb, false≢true, cond-true}
use Rattle.std.proofs.lemmas.List.{drop-drop, drop-replicate, drop-set-lt, drop-append-le, drop_all}
use Rattle.ordered.specs.Rooms.{listed, pushed}

-- one place further on, one blank fewer lies behind
pub blank_behind : {X : Type 0} (n count : ℕ) (b : X) (slots : List X) → drop count slots ≡ replicate (n - count) b → drop (count + 1) slots ≡ replicate (n - (count + 1)) b
blank_behind n count b slots blank =
    sym (drop-drop 1 count slots)
    ∙ ap (drop 1) blank
    ∙ drop-replicate 1 (n - count) b
    ∙ ap (λ k. replicate k b) (omega arith)

pub blank_behind_set : {X : Type 0} (n count at : ℕ) (b x : X) (slots : List X) → at ≤ count → drop count slots ≡ replicate (n - count) b → drop (count + 1) (set slots at x) ≡ replicate (n - (count + 1)) b
blank_behind_set n count at b x slots here blank = drop-set-lt (count + 1) slots at x (omega (arith, here)) ∙ blank_behind n count b slots blank

-- a push with room is done
pub has_room : {X E : Type 0} (n : ℕ) (xs : List X) (r : Result (Unit {0}) E) → is_ok r ≡ nat_lt (length xs) n → length xs < n → IsOk r
has_room n xs (Ok u) told room = search rules
has_room n xs (Err e) told room = absurd (false≢true (told ∙ lt-ltb (length xs) n room))

-- a push with room puts the item behind the others
pub pushed_behind : {X : Type 0} (n : ℕ) (x : X) (xs : List X) → length xs < n → pushed n x xs ≡ xs ++ x ∷ []
pushed_behind n x xs room = cond-true (nat_lt (length xs) n) _ _ (lt-ltb (length xs) n room)

-- items that have room are listed
pub has_list : {X : Type 0} (n : ℕ) (xs : List X) → length xs ≤ n → listed n xs ≡ Ok xs
has_list n xs few = cond-true (nat_le (length xs) n) _ _ (le-leb (length xs) n few)

-- items in place of the first blanks leave the room full, and blanks behind them
pub copied_room : {X : Type 0} (n m : ℕ) (b : X) (xs : List X) → length xs ≡ n → n ≤ m → length (xs ++ drop n (replicate m b)) ≡ m
copied_room n m b xs e l = length-append xs (drop n (replicate m b)) ∙ omega (arith, e, l, length-drop n (replicate m b), length-replicate m b)

pub copied_rest : {X : Type 0} (n m : ℕ) (b : X) (xs : List X) → length xs ≡ n → drop n (xs ++ drop n (replicate m b)) ≡ replicate (m - n) b
copied_rest n m b xs e =
    drop-append-le n xs (drop n (replicate m b)) (omega (arith, e))
    ∙ ap (λ zs. zs ++ drop n (replicate m b)) (drop_all n xs (omega (arith, e)))
    ∙ drop-replicate n m b
