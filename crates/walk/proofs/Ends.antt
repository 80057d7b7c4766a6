-- The end of a list, and what stands before it.
use Rattle.std.proofs.Common.{◌≡◌, ℕ, suc, ◌+◌, ◌-◌, ◌≤◌, List, [], ◌∷◌, ◌++◌, length, get_or, take, drop, sym, ap, ◌∙◌, subst, arith, length-drop}
use Rattle.std.proofs.lemmas.List.{take-append-drop, take_more, drop_more}
use Rattle.walk.specs.Ends.{Ends, before}

module _ {X : Type 0} where
  pub ends_itself : (xs : List X) → Ends xs xs
  ends_itself xs = let e : 0 ≡ length xs - length xs = omega arith in ap (λ n. drop n xs) e

  pub ends_same : (xs ys zs : List X) → zs ≡ ys → Ends xs ys → Ends xs zs
  ends_same xs ys zs e h = subst (Ends xs) (sym e) h

  -- the two make the whole
  pub before_end : (xs ys : List X) → Ends xs ys → before xs ys ++ ys ≡ xs
  before_end xs ys h = ap (λ z. before xs ys ++ z) h ∙ take-append-drop (length xs - length ys) xs

  module _ (xs ys : List X) (y : X) (h : Ends xs (y ∷ ys)) where
    k : ℕ
    k = length xs - length (y ∷ ys)

    short : suc (length ys) ≤ length xs
    short = let e : suc (length ys) ≡ length xs - (length xs - suc (length ys)) = ap length h ∙ length-drop (length xs - length (y ∷ ys)) xs in omega arith

    one_more : length xs - length ys ≡ (length xs - length (y ∷ ys)) + 1
    one_more = omega (arith, short)

    at_k : drop (length xs - length (y ∷ ys)) xs ≡ get_or xs (length xs - length (y ∷ ys)) y ∷ drop (length xs - length (y ∷ ys) + 1) xs
    at_k = drop_more xs (length xs - length (y ∷ ys)) y (omega (arith, short))

    joined : y ∷ ys ≡ get_or xs (length xs - length (y ∷ ys)) y ∷ drop (length xs - length (y ∷ ys) + 1) xs
    joined = h ∙ at_k

    pub ends_tail : Ends xs ys
    ends_tail = let e = joined in let f : ys ≡ drop (length xs - length (y ∷ ys) + 1) xs = cc in f ∙ ap (λ n. drop n xs) (sym one_more)

    pub before_tail : before xs ys ≡ before xs (y ∷ ys) ++ y ∷ []
    before_tail =
        let e = joined in
        let f : get_or xs (length xs - length (y ∷ ys)) y ≡ y = cc in
        ap (λ n. take n xs) one_more ∙ take_more xs (length xs - length (y ∷ ys)) y (omega (arith, short)) ∙ ap (λ z. before xs (y ∷ ys) ++ z ∷ []) f

  pub ends_next : (xs zs ys : List X) (y : X) → zs ≡ y ∷ ys → Ends xs zs → Ends xs ys
  ends_next xs zs ys y e h = ends_tail xs ys y (subst (Ends xs) e h)

  pub before_next : (xs zs ys : List X) (y : X) → zs ≡ y ∷ ys → Ends xs zs → before xs ys ≡ before xs zs ++ y ∷ []
  before_next xs zs ys y e h = before_tail xs ys y (subst (Ends xs) e h) ∙ ap (λ z. before xs z ++ y ∷ []) (sym e)
