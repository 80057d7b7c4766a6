-- The first items of what is left decide each turn, and at the end of one list the lengths do.
use Rattle.std.proofs.Common.{◌≡◌, ℕ, ◌+◌, ◌<◌, Bool, ◌⊎◌, List, [], ◌∷◌, length, Ordering, Less, Equal, Greater, sym, refl, ap, ◌∙◌, ap₂, inl, inr, arith, rules}
use Rattle.std.specs.Ordering.{ordering_then, MatchOrdering}
use Rattle.std.proofs.lemmas.Slice.Zip.{Zip-more, either_empty_from_Zip}
use Rattle.ordered.specs.Orders.{rank, comparison}
use Rattle.ordered.proofs.Orders.{list_order}
use Rattle.ordered.proofs.compare.compare.Goals as goal

first : (a b : Ordering) → (a ≡ Equal → ⊥) → ordering_then a b ≡ a
first Less b h = refl
first Equal b h = absurd (h refl)
first Greater b h = refl

module _ {X : Type 0} (less : X → X → Bool) where
  -- what is left, ps and qs, decides on xs and ys, and as many are passed in both
  abbrev Left : (xs ys ps qs : List X) → Type 0
  Left xs ys ps qs = (comparison less xs ys ≡ comparison less ps qs) × (length xs + length qs ≡ length ys + length ps)

  starts : (xs ys ps qs : List X) → ps ≡ xs → qs ≡ ys → Left xs ys ps qs
  starts xs ys ps qs h k = (rw (h, k), rw (h, k) (omega arith))

  goes_on : (xs ys ps qs cs ds : List X) (x y : X) → Left xs ys ps qs → ps ≡ x ∷ cs → qs ≡ y ∷ ds → Equal ≡ rank less x y → Left xs ys cs ds
  goes_on xs ys ps qs cs ds x y l h k e =
      let n = ap length h in
      let m = ap length k in
      (l.0 ∙ ap₂ (comparison less) h k ∙ ap (λ o. ordering_then o (comparison less cs ds)) (sym e), omega arith)

  decided : (xs ys ps qs cs ds : List X) (x y : X) (o : Ordering) → Left xs ys ps qs → ps ≡ x ∷ cs → qs ≡ y ∷ ds → o ≡ rank less x y → (o ≡ Equal → ⊥) → o ≡ comparison less xs ys
  decided xs ys ps qs cs ds x y o l h k e n = sym (l.0 ∙ ap₂ (comparison less) h k ∙ ap (λ p. ordering_then p (comparison less cs ds)) (sym e) ∙ first o (comparison less cs ds) n)

  by_lengths : (ps qs : List X) (m n : ℕ) (o : Ordering) → (ps ≡ []) ⊎ (qs ≡ []) → m + length qs ≡ n + length ps → MatchOrdering o (m < n) (m ≡ n) (n < m) → o ≡ comparison less ps qs
  by_lengths [] [] m n Less h e r = absurd (omega arith)
  by_lengths [] [] m n Equal h e r = refl
  by_lengths [] [] m n Greater h e r = absurd (omega arith)
  by_lengths [] (q ∷ qs) m n Less h e r = refl
  by_lengths [] (q ∷ qs) m n Equal h e r = absurd (omega arith)
  by_lengths [] (q ∷ qs) m n Greater h e r = absurd (omega arith)
  by_lengths (p ∷ ps) [] m n Less h e r = absurd (omega arith)
  by_lengths (p ∷ ps) [] m n Equal h e r = absurd (omega arith)
  by_lengths (p ∷ ps) [] m n Greater h e r = refl
  by_lengths (p ∷ ps) (q ∷ qs) m n o (inl z) e r = cc
  by_lengths (p ∷ ps) (q ∷ qs) m n o (inr z) e r = cc

  ended : (xs ys ps qs : List X) (o : Ordering) → Left xs ys ps qs → (ps ≡ []) ⊎ (qs ≡ []) → MatchOrdering o (length xs < length ys) (length xs ≡ length ys) (length ys < length xs) → o ≡ comparison less xs ys
  ended xs ys ps qs o l h r = by_lengths ps qs (length xs) (length ys) o h l.1 r ∙ sym l.0

pub returns-in_default : goal.returns-in_default
returns-in_default g c =
    let t = Zip-more c.loop-x.x-iterator c.next.new.self c.next.result _ c.in-Some.is c.next.ensures.steps in
    record {
      value = decided g.T.TotalOrder.less c.args.xs.now c.args.ys.now _ _ _ _ _ _ _ c.loop-x.invariant t.0 t.1 c.order.ensures c.in_default.not-Equal;
      total = list_order g.T.TotalOrder.less g.met.T.TotalOrder.total;
    }

pub returns : goal.returns
returns g c =
    let e = either_empty_from_Zip c.loop-x.x-iterator c.next.new.self c.next.result c.in-None.is c.next.ensures.steps in
    record {
      value = ended g.T.TotalOrder.less c.args.xs.now c.args.ys.now _ _ c.cmp.result c.loop-x.invariant e (search rules);
      total = list_order g.T.TotalOrder.less g.met.T.TotalOrder.total;
    }
