-- What a write behind the start of a text leaves: the text grows, and what lies behind it stays.
use Rattle.std.proofs.Common.{◌≡◌, ℕ, ◌+◌, ◌<◌, ◌≤◌, List, [], ◌∷◌, ◌++◌, length, take, drop, set, sym, ap, ◌∙◌, append_assoc, add-one, arith, length-append, drop-cons}
use lib.Seq.{set-append_seam, drop-append-add}
use Rattle.std.proofs.lemmas.List.{drop-drop, take_at, length-take-le}
use Rattle.ordered.specs.Lookups.{over}
use Rattle.catalogue.specs.Writers.{behind}

pub over_byte : (p xs ys : List ℕ) (n b : ℕ) → ys ≡ over p xs → length p ≡ n → n < length xs → set ys n b ≡ over (p ++ (b ∷ [])) xs
over_byte p xs ys n b e l h =
    let h' : length p < length xs = omega (arith, l) in
    rw (e, ← l, drop-cons xs (length p) 0, set-append_seam, append_assoc, length-append, add-one)

-- one text written behind another is one text
pub behind_more : (at n : ℕ) (bs cs xs : List ℕ) → at ≤ length xs → n ≡ at + length bs → behind n cs (behind at bs xs) ≡ behind at (bs ++ cs) xs
behind_more at n bs cs xs h e =
    let p = take at xs ++ bs in
    let d = drop (length p) xs in
    let l : length p ≡ n = length-append (take at xs) bs ∙ ap (λ k. k + length bs) (length-take-le at xs h) ∙ sym e in
    let start : take n (over p xs) ≡ p = take_at p d n l in
    let again : over (p ++ cs) (over p xs) ≡ over (p ++ cs) xs = rw (length-append p cs, drop-append-add p d (length cs), drop-drop) in
    ap (λ q. over (q ++ cs) (over p xs)) start ∙ again ∙ ap (λ q. over q xs) (append_assoc (take at xs) bs cs)
