-- Counting with lists: sums over one, how often an item is in one, and the pigeonhole.
--     Equality same      the test says whether two items are equal
--     total f xs         the sum of f over xs
use Rattle.std.proofs.Common.{◌≡◌, ℕ, ◌+◌, ◌*◌, ◌≤◌, Bool, true, false, cond, eqb, ◌⊎◌, List, [], ◌∷◌, length, sum_by, filter, sym, refl, ap, ◌∙◌, inl, inr, one-mul, arith}
use Rattle.std.proofs.lemmas.List.Sums.{sum_by-cons}
use Rattle.std.proofs.lemmas.Bool.{true≢false, eqb-true, eq-eqb}
use Rattle.ordered.specs.Members.{In, NoRepeats}
use Rattle.ordered.proofs.Members.{in_cast}

abbrev pub Equality : {X : Type 0} → (X → X → Bool) → Type 0
Equality {X} same = (x y : X) → (same x y ≡ true → x ≡ y) × (x ≡ y → same x y ≡ true)

abbrev pub total : {X : Type 0} → (X → ℕ) → List X → ℕ
total f [] = 0
total f (x ∷ xs) = f x + total f xs

-- ---- sums
-- std's sum, which adds from the front
pub total_sum_by : {X : Type 0} (f : X → ℕ) (xs : List X) → total f xs ≡ sum_by f xs
total_sum_by f [] = refl
total_sum_by f (x ∷ xs) = omega (arith, total_sum_by f xs, sum_by-cons f x xs)

pub total_0 : {X : Type 0} (xs : List X) → total (λ x. 0) xs ≡ 0
total_0 [] = refl
total_0 (x ∷ xs) = omega (arith, total_0 xs)

pub total_1 : {X : Type 0} (xs : List X) → total (λ x. 1) xs ≡ length xs
total_1 [] = refl
total_1 (x ∷ xs) = omega (arith, total_1 xs)

pub total_add : {X : Type 0} (f g : X → ℕ) (xs : List X) → total (λ x. f x + g x) xs ≡ total f xs + total g xs
total_add f g [] = refl
total_add f g (x ∷ xs) = omega (arith, total_add f g xs)

pub total_le : {X : Type 0} (f g : X → ℕ) (xs : List X) → ((x : X) → In x xs → f x ≤ g x) → total f xs ≤ total g xs
total_le f g [] h = omega arith
total_le f g (x ∷ xs) h = omega (arith, total_le f g xs (λ y q. h y (inr q)), h x (inl refl))

pub total_same : {X : Type 0} (f g : X → ℕ) (xs : List X) → ((x : X) → In x xs → f x ≡ g x) → total f xs ≡ total g xs
total_same f g [] h = refl
total_same f g (x ∷ xs) h = omega (arith, total_same f g xs (λ y q. h y (inr q)), h x (inl refl))

pub total_const : {X : Type 0} (k : ℕ) (xs : List X) → total (λ x. k) xs ≡ length xs * k
total_const k [] = omega arith
total_const k (x ∷ xs) = omega (arith, total_const k xs)

pub total_swap : {X Y : Type 0} (f : X → Y → ℕ) (xs : List X) (ys : List Y) → total (λ x. total (f x) ys) xs ≡ total (λ y. total (λ x. f x y) xs) ys
total_swap f [] ys = sym (total_0 ys)
total_swap f (x ∷ xs) ys = omega (arith, total_swap f xs ys, total_add (f x) (λ y. total (λ z. f z y) xs) ys)

pub length_kept : {X : Type 0} (p : X → Bool) (xs : List X) → length (filter p xs) ≡ total (λ x. cond (p x) 1 0) xs
length_kept p [] = refl
length_kept p (x ∷ xs) = go (p x) (length_kept p xs)
  where
    go : (b : Bool) → length (filter p xs) ≡ total (λ z. cond (p z) 1 0) xs → length (cond b (x ∷ filter p xs) (filter p xs)) ≡ cond b 1 0 + total (λ z. cond (p z) 1 0) xs
    go true r = omega arith
    go false r = omega arith

pub total_kept : {X : Type 0} (p : X → Bool) (w : X → ℕ) (xs : List X) → total w (filter p xs) ≡ total (λ x. cond (p x) (w x) 0) xs
total_kept p w [] = refl
total_kept p w (x ∷ xs) = go (p x) (total_kept p w xs)
  where
    go : (b : Bool) → total w (filter p xs) ≡ total (λ z. cond (p z) (w z) 0) xs → total w (cond b (x ∷ filter p xs) (filter p xs)) ≡ cond b (w x) 0 + total (λ z. cond (p z) (w z) 0) xs
    go true r = omega arith
    go false r = omega arith

pub total_scale : {X : Type 0} (p : X → Bool) (k : ℕ) (xs : List X) → total (λ x. cond (p x) k 0) xs ≡ total (λ x. cond (p x) 1 0) xs * k
total_scale p k [] = omega arith
total_scale p k (x ∷ xs) = go (p x) (total_scale p k xs)
  where
    go : (b : Bool) → total (λ z. cond (p z) k 0) xs ≡ total (λ z. cond (p z) 1 0) xs * k → cond b k 0 + total (λ z. cond (p z) k 0) xs ≡ (cond b 1 0 + total (λ z. cond (p z) 1 0) xs) * k
    go true r = omega arith
    go false r = omega arith

-- ---- how often one is in a list
pub number_equality : Equality eqb
number_equality x y = (eqb-true x y, eq-eqb x y)

module _ {X : Type 0} (same : X → X → Bool) (eq : Equality same) where
  pub differ : (x y : X) → (x ≡ y → ⊥) → same x y ≡ false
  differ x y n = go (same x y) refl
    where
      go : (b : Bool) → same x y ≡ b → same x y ≡ false
      go true e = absurd (n ((eq x y).0 e))
      go false e = e

  pub decide : (x y : X) → (x ≡ y) ⊎ (x ≡ y → ⊥)
  decide x y = go (same x y) refl
    where
      go : (b : Bool) → same x y ≡ b → (x ≡ y) ⊎ (x ≡ y → ⊥)
      go true e = inl ((eq x y).0 e)
      go false e = inr (λ q. true≢false (sym ((eq x y).1 q) ∙ e))

  pub in_or_not : (x : X) (xs : List X) → In x xs ⊎ (In x xs → ⊥)
  in_or_not x [] = inr (λ h. h)
  in_or_not x (y ∷ ys) = go (decide x y) (in_or_not x ys)
    where
      out : (x ≡ y → ⊥) → (In x ys → ⊥) → In x (y ∷ ys) → ⊥
      out n m (inl e) = n e
      out n m (inr h) = m h

      go : (x ≡ y) ⊎ (x ≡ y → ⊥) → In x ys ⊎ (In x ys → ⊥) → In x (y ∷ ys) ⊎ (In x (y ∷ ys) → ⊥)
      go (inl e) r = inl (inl e)
      go (inr n) (inl h) = inl (inr h)
      go (inr n) (inr m) = inr (out n m)

  pub hits : (x : X) (xs : List X) → ℕ
  hits x xs = total (λ y. cond (same x y) 1 0) xs

  pub hits_none : (x : X) (xs : List X) → (In x xs → ⊥) → hits x xs ≡ 0
  unfolding hits
  hits_none x [] n = refl
  hits_none x (y ∷ ys) n = rw (differ x y (λ e. n (inl e))) (omega (arith, hits_none x ys (λ h. n (inr h))))

  pub hits_once : (x : X) (xs : List X) → NoRepeats xs → In x xs → hits x xs ≡ 1
  unfolding hits
  hits_once x [] a h = absurd h
  hits_once x (y ∷ ys) a (inl e) = rw ((eq x y).1 e) (omega (arith, hits_none x ys (λ h. a.0 (in_cast ys e h))))
  hits_once x (y ∷ ys) a (inr h) = rw (differ x y (λ e. a.0 (in_cast ys e h))) (omega (arith, hits_once x ys a.1 h))

  pub hits_some : (x : X) (xs : List X) → In x xs → 1 ≤ hits x xs
  unfolding hits
  hits_some x [] h = absurd h
  hits_some x (y ∷ ys) (inl e) = rw ((eq x y).1 e) (omega arith)
  hits_some x (y ∷ ys) (inr h) = omega (arith, hits_some x ys h)

  pub hits_most : (x : X) (xs : List X) → NoRepeats xs → hits x xs ≤ 1
  hits_most x xs a = go (in_or_not x xs)
    where
      go : In x xs ⊎ (In x xs → ⊥) → hits x xs ≤ 1
      go (inl h) = omega (arith, hits_once x xs a h)
      go (inr n) = omega (arith, hits_none x xs n)

  pub same_sym : (x y : X) → same x y ≡ same y x
  same_sym x y = go (decide x y)
    where
      go : (x ≡ y) ⊎ (x ≡ y → ⊥) → same x y ≡ same y x
      go (inl e) = (eq x y).1 e ∙ sym ((eq y x).1 (sym e))
      go (inr n) = differ x y n ∙ sym (differ y x (λ e. n (sym e)))

  -- the pigeonhole: what has no repeats and lies in ys is no longer than ys
  pub fits : (xs ys : List X) → NoRepeats xs → ((x : X) → In x xs → In x ys) → length xs ≤ length ys
  unfolding hits
  fits xs ys a sub =
      let one : (y : X) → In y ys → total (λ x. cond (same x y) 1 0) xs ≤ 1 = λ y q. rw (total_same (λ x. cond (same x y) 1 0) (λ x. cond (same y x) 1 0) xs (λ x p. ap (λ (b : Bool). cond b 1 0) (same_sym x y))) (hits_most y xs a) in
      omega (arith, total_1 xs, total_1 ys, total_le (λ x. 1) (λ x. hits x ys) xs (λ x p. hits_some x ys (sub x p)), total_swap (λ x y. cond (same x y) 1 0) xs ys, total_le (λ y. total (λ x. cond (same x y) 1 0) xs) (λ y. 1) ys one)

  -- the length of xs, counted by the values of f in ys
  pub fibres : {Y : Type 0} (f : Y → X) (xs : List Y) (ys : List X) → NoRepeats ys → ((x : Y) → In x xs → In (f x) ys) → length xs ≡ total (λ y. length (filter (λ x. same (f x) y) xs)) ys
  unfolding hits
  fibres f xs ys a into =
      let one = total_same (λ x. hits (f x) ys) (λ x. 1) xs (λ x p. hits_once (f x) ys a (into x p)) in
      let fib = total_same (λ y. length (filter (λ x. same (f x) y) xs)) (λ y. total (λ x. cond (same (f x) y) 1 0) xs) ys (λ y p. length_kept (λ x. same (f x) y) xs) in
      omega (arith, total_1 xs, one, fib, total_swap (λ x y. cond (same (f x) y) 1 0) xs ys)

  -- the same for a sum over xs
  pub fibres_total : {Y : Type 0} (f : Y → X) (w : Y → ℕ) (xs : List Y) (ys : List X) → NoRepeats ys → ((x : Y) → In x xs → In (f x) ys) → total w xs ≡ total (λ y. total w (filter (λ x. same (f x) y) xs)) ys
  unfolding hits
  fibres_total f w xs ys a into =
      let one = total_same (λ x. total (λ y. cond (same (f x) y) (w x) 0) ys) w xs (λ x p. total_scale (λ y. same (f x) y) (w x) ys ∙ ap (λ (n : ℕ). n * w x) (hits_once (f x) ys a (into x p)) ∙ one-mul (w x)) in
      let fib = total_same (λ y. total w (filter (λ x. same (f x) y) xs)) (λ y. total (λ x. cond (same (f x) y) (w x) 0) xs) ys (λ y p. total_kept (λ x. same (f x) y) w xs) in
      omega (arith, one, fib, total_swap (λ x y. cond (same (f x) y) (w x) 0) xs ys)
