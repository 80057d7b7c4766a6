-- Strict total orders: the cases of two items, what a rank says, and the order of lists.
--     Three less x y       the first is less, the second is less, or they are equal
--     neither less x y     the test that neither is less
use Rattle.std.proofs.Common.{◌≡◌, Bool, true, false, cond, not, ltb, ◌⊎◌, List, [], ◌∷◌, Ordering, Less, Equal, Greater, sym, refl, ap, ◌∙◌, subst, inl, inr, arith}
use Rattle.std.proofs.lemmas.Bool.{true≢false}
use Rattle.std.proofs.lemmas.Bool.Decides.{nat_tests}
use Rattle.std.specs.Ordering.{is_lt, is_eq, ordering_then}
use Rattle.ordered.specs.Orders.{StrictTotal, rank, comparison, list_less}
use Rattle.ordered.proofs.Counting.{Equality}

abbrev pub Three : {X : Type 0} → (X → X → Bool) → X → X → Type 0
Three less x y = ((less x y ≡ true) × (less y x ≡ false)) ⊎ (((less x y ≡ false) × (less y x ≡ true)) ⊎ ((less x y ≡ false) × (less y x ≡ false) × (x ≡ y)))

abbrev pub neither : {X : Type 0} → (X → X → Bool) → X → X → Bool
neither less x y = cond (less x y) false (not (less y x))

pub is_equal : (o : Ordering) → is_eq o ≡ true → o ≡ Equal
is_equal Less e = absurd (true≢false (sym e))
is_equal Equal e = refl
is_equal Greater e = absurd (true≢false (sym e))

-- ---- what a rank says, of any test
pub rank_less : {X : Type 0} (less : X → X → Bool) (x y : X) → rank less x y ≡ Less → less x y ≡ true
rank_less less x y h = go (less x y) (less y x) h
  where
    go : (s t : Bool) → cond s Less (cond t Greater Equal) ≡ Less → s ≡ true
    go true t e = refl
    go false true e = cc
    go false false e = cc

pub rank_greater : {X : Type 0} (less : X → X → Bool) (x y : X) → rank less x y ≡ Greater → (less x y ≡ false) × (less y x ≡ true)
rank_greater less x y h = go (less x y) (less y x) h
  where
    go : (s t : Bool) → cond s Less (cond t Greater Equal) ≡ Greater → (s ≡ false) × (t ≡ true)
    go true t e = (cc, cc)
    go false true e = (refl, refl)
    go false false e = (refl, cc)

pub rank_equal : {X : Type 0} (less : X → X → Bool) (x y : X) → rank less x y ≡ Equal → (less x y ≡ false) × (less y x ≡ false)
rank_equal less x y h = go (less x y) (less y x) h
  where
    go : (s t : Bool) → cond s Less (cond t Greater Equal) ≡ Equal → (s ≡ false) × (t ≡ false)
    go true t e = (cc, cc)
    go false true e = (refl, cc)
    go false false e = (refl, refl)

pub less_rank : {X : Type 0} (less : X → X → Bool) (x y : X) → less x y ≡ true → rank less x y ≡ Less
less_rank less x y e = rw e

module _ {X : Type 0} (less : X → X → Bool) (O : StrictTotal less) where
  pub three : (x y : X) → Three less x y
  three x y = go (less x y) (less y x) refl refl
    where
      go : (s t : Bool) → less x y ≡ s → less y x ≡ t → Three less x y
      go true true p q = absurd (O.irreflexive x (O.transitive x y x p q))
      go true false p q = inl (p, q)
      go false true p q = inr (inl (p, q))
      go false false p q = inr (inr (p, q, O.trichotomous x y (λ e. true≢false (sym e ∙ p)) (λ e. true≢false (sym e ∙ q))))

  pub one_way : (x y : X) → less x y ≡ true → less y x ≡ false
  one_way x y h = go (less y x) refl
    where
      go : (b : Bool) → less y x ≡ b → less y x ≡ false
      go true e = absurd (O.irreflexive x (O.transitive x y x h e))
      go false e = e

  pub same_by : Equality (neither less)
  same_by x y = (to (three x y), from (three x y))
    where
      to : Three less x y → neither less x y ≡ true → x ≡ y
      to (inl c) h = absurd (true≢false (sym (rw c.0 at h)))
      to (inr (inl c)) h = absurd (true≢false (sym (rw (c.0, c.1) at h)))
      to (inr (inr c)) h = c.2

      from : Three less x y → x ≡ y → neither less x y ≡ true
      from (inl c) e = absurd (O.irreflexive y (subst (λ (w : X). less w y ≡ true) e c.0))
      from (inr (inl c)) e = absurd (O.irreflexive y (subst (λ (w : X). less y w ≡ true) e c.1))
      from (inr (inr c)) e = rw (c.0, c.1)

  pub greater_rank : (x y : X) → less y x ≡ true → rank less x y ≡ Greater
  greater_rank x y e = rw (one_way y x e, e)

  pub same_rank : (x y : X) → rank less x y ≡ Equal → x ≡ y
  same_rank x y h = let t = rank_equal less x y h in O.trichotomous x y (λ e. true≢false (sym e ∙ t.0)) (λ e. true≢false (sym e ∙ t.1))

  pub equal_rank : (x y : X) → x ≡ y → rank less x y ≡ Equal
  equal_rank x y e = go (three x y)
    where
      go : Three less x y → rank less x y ≡ Equal
      go (inl c) = absurd (O.irreflexive y (subst (λ (w : X). less w y ≡ true) e c.0))
      go (inr (inl c)) = absurd (O.irreflexive y (subst (λ (w : X). less y w ≡ true) e c.1))
      go (inr (inr c)) = rw (c.0, c.1)

  -- ---- lists
  pub same_comparison : (xs ys : List X) → comparison less xs ys ≡ Equal → xs ≡ ys
  same_comparison [] [] h = refl
  same_comparison [] (y ∷ ys) h = cc
  same_comparison (x ∷ xs) [] h = cc
  same_comparison (x ∷ xs) (y ∷ ys) h = go (three x y) (same_comparison xs ys)
    where
      go : Three less x y → (comparison less xs ys ≡ Equal → xs ≡ ys) → x ∷ xs ≡ y ∷ ys
      go (inl c) r = let k : Less ≡ Equal = rw c.0 at h in cc
      go (inr (inl c)) r = let k : Greater ≡ Equal = rw (c.0, c.1) at h in cc
      go (inr (inr c)) r = let t : xs ≡ ys = r (rw (c.0, c.1) at h) in let u : x ≡ y = c.2 in cc

  itself : (xs : List X) → comparison less xs xs ≡ Equal
  itself [] = refl
  itself (x ∷ xs) = rw (equal_rank x x refl) (itself xs)

  pub equal_comparison : (xs ys : List X) → xs ≡ ys → comparison less xs ys ≡ Equal
  equal_comparison xs ys e = rw (← e) (itself xs)

  list_transitive : (xs ys zs : List X) → list_less less xs ys ≡ true → list_less less ys zs ≡ true → list_less less xs zs ≡ true
  list_transitive [] [] zs h k = k
  list_transitive [] (y ∷ ys) [] h k = k
  list_transitive [] (y ∷ ys) (z ∷ zs) h k = refl
  list_transitive (x ∷ xs) [] zs h k = absurd (true≢false (sym h))
  list_transitive (x ∷ xs) (y ∷ ys) [] h k = k
  list_transitive (x ∷ xs) (y ∷ ys) (z ∷ zs) h k = go (three x y) (three y z) h k (list_transitive xs ys zs)
    where
      lower : less x z ≡ true → list_less less (x ∷ xs) (z ∷ zs) ≡ true
      lower e = rw e

      go : Three less x y → Three less y z → list_less less (x ∷ xs) (y ∷ ys) ≡ true → list_less less (y ∷ ys) (z ∷ zs) ≡ true → (list_less less xs ys ≡ true → list_less less ys zs ≡ true → list_less less xs zs ≡ true) → list_less less (x ∷ xs) (z ∷ zs) ≡ true
      go (inl c) (inl d) p q r = lower (O.transitive x y z c.0 d.0)
      go (inl c) (inr (inl d)) p q r = absurd (true≢false (sym (rw (d.0, d.1) at q)))
      go (inl c) (inr (inr d)) p q r = lower (subst (λ (w : X). less x w ≡ true) d.2 c.0)
      go (inr (inl c)) d p q r = absurd (true≢false (sym (rw (c.0, c.1) at p)))
      go (inr (inr c)) (inl d) p q r = lower (subst (λ (w : X). less w z ≡ true) (sym c.2) d.0)
      go (inr (inr c)) (inr (inl d)) p q r = absurd (true≢false (sym (rw (d.0, d.1) at q)))
      go (inr (inr c)) (inr (inr d)) p q r = subst (λ (w : X). is_lt (ordering_then (rank less w z) (comparison less xs zs)) ≡ true) (sym c.2) (rw (d.0, d.1) (r (rw (c.0, c.1) at p) (rw (d.0, d.1) at q)))

  list_trichotomous : (xs ys : List X) → (list_less less xs ys ≡ true → ⊥) → (list_less less ys xs ≡ true → ⊥) → xs ≡ ys
  list_trichotomous [] [] h k = refl
  list_trichotomous [] (y ∷ ys) h k = absurd (h refl)
  list_trichotomous (x ∷ xs) [] h k = absurd (k refl)
  list_trichotomous (x ∷ xs) (y ∷ ys) h k = go (three x y) h k (list_trichotomous xs ys)
    where
      go : Three less x y → (list_less less (x ∷ xs) (y ∷ ys) ≡ true → ⊥) → (list_less less (y ∷ ys) (x ∷ xs) ≡ true → ⊥) → ((list_less less xs ys ≡ true → ⊥) → (list_less less ys xs ≡ true → ⊥) → xs ≡ ys) → x ∷ xs ≡ y ∷ ys
      go (inl c) p q r = absurd (p (rw c.0))
      go (inr (inl c)) p q r = absurd (q (rw c.1))
      go (inr (inr c)) p q r = let t : xs ≡ ys = r (λ e. p (rw (c.0, c.1) e)) (λ e. q (rw (c.1, c.0) e)) in let u : x ≡ y = c.2 in cc

  pub list_order : StrictTotal (list_less less)
  list_order = record { irreflexive = λ xs h. true≢false (sym (rw (itself xs) at h)); transitive = list_transitive; trichotomous = list_trichotomous }

  -- the test of equality of lists
  pub comparison_equality : Equality (λ (xs ys : List X). is_eq (comparison less xs ys))
  comparison_equality xs ys = (λ e. same_comparison xs ys (is_equal (comparison less xs ys) e), λ e. ap is_eq (equal_comparison xs ys e))

-- lists compare as their order ranks them
pub rank_list : {X : Type 0} (less : X → X → Bool) → StrictTotal less → (xs ys : List X) → comparison less xs ys ≡ rank (list_less less) xs ys
rank_list {X} less O xs ys = go (three (list_less less) order xs ys)
  where
    order : StrictTotal (list_less less)
    order = list_order less O

    greater : (o : Ordering) → comparison less xs ys ≡ o → list_less less xs ys ≡ false → list_less less ys xs ≡ true → comparison less xs ys ≡ Greater
    greater Less e p q = absurd (true≢false (sym (ap is_lt e) ∙ p))
    greater Equal e p q = absurd (order.irreflexive ys (subst (λ (l : List X). list_less less ys l ≡ true) (same_comparison less O xs ys e) q))
    greater Greater e p q = e

    lesser : (o : Ordering) → is_lt o ≡ true → o ≡ Less
    lesser Less e = refl
    lesser Equal e = absurd (true≢false (sym e))
    lesser Greater e = absurd (true≢false (sym e))

    go : Three (list_less less) xs ys → comparison less xs ys ≡ rank (list_less less) xs ys
    go (inl c) = lesser (comparison less xs ys) c.0 ∙ sym (less_rank (list_less less) xs ys c.0)
    go (inr (inl c)) = greater (comparison less xs ys) refl c.0 c.1 ∙ sym (greater_rank (list_less less) order xs ys c.1)
    go (inr (inr c)) = equal_comparison less O xs ys c.2 ∙ sym (equal_rank (list_less less) order xs ys c.2)

-- ---- numbers
pub number_order : StrictTotal ltb
number_order = record {
  irreflexive = λ x h. grind (arith, nat_tests);
  transitive = λ x y z h k. grind (arith, nat_tests);
  trichotomous = λ x y h k. grind (arith, nat_tests);
}
