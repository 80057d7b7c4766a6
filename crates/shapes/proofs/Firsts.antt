-- The first of each kind: one item more, and that they are as many as the different values.
use Rattle.std.proofs.Common.{◌≡◌, ◌≤◌, Bool, true, false, cond, not, ◌||◌, ◌⊎◌, List, [], ◌∷◌, ◌++◌, map, length, filter, sym, refl, ap, ◌∙◌, inl, inr, le_antisymm, arith}
use lib.ListN.{length-map}
use Rattle.std.proofs.lemmas.List.Elements.{filter-append}
use Rattle.std.proofs.lemmas.Bool.{true≢false, not-true, not_from_false}
use Rattle.ordered.specs.Members.{In, NoRepeats}
use Rattle.ordered.specs.Orders.{StrictTotal}
use Rattle.ordered.specs.Lookups.{sorted}
use Rattle.ordered.proofs.Counting.{Equality, differ, decide, fits}
use Rattle.ordered.proofs.Kept.{length_kept_le}
use Rattle.ordered.proofs.Members.{in_cast, in_map, from_map, in_kept, from_kept, no_repeats_kept}
use Rattle.ordered.proofs.Sorted.{sorted_in, sorted_out, sorted_no_repeats}
use Rattle.shapes.specs.Floods.{some_pass}
use Rattle.shapes.specs.Members.{firsts}

-- ---- tests of what a function gives
pub some_pass_map : {X Y : Type 0} (p : Y → Bool) (f : X → Y) (xs : List X) → some_pass p (map f xs) ≡ some_pass (λ x. p (f x)) xs
some_pass_map p f [] = refl
some_pass_map p f (x ∷ xs) = ap (λ (b : Bool). p (f x) || b) (some_pass_map p f xs)

map_kept : {X Y : Type 0} (p : Y → Bool) (f : X → Y) (xs : List X) → map f (filter (λ x. p (f x)) xs) ≡ filter p (map f xs)
map_kept p f [] = refl
map_kept {X} {Y} p f (x ∷ xs) = go (p (f x)) (map_kept p f xs)
  where
    go : (b : Bool) → map f (filter (λ z. p (f z)) xs) ≡ filter p (map f xs) → map f (cond b (x ∷ filter (λ z. p (f z)) xs) (filter (λ z. p (f z)) xs)) ≡ cond b (f x ∷ filter p (map f xs)) (filter p (map f xs))
    go true r = ap (λ (l : List Y). f x ∷ l) r
    go false r = r

module _ {X : Type 0} (same : X → X → Bool) (eq : Equality same) {K : Type 0} (f : K → X) where
  abbrev alike : K → K → Bool
  alike g h = same (f g) (f h)

  -- ---- one item more
  -- what gives another value than x does is missed by nobody who looks for x's
  skip : (y x : K) → alike y x ≡ false → (zs : List K) → some_pass (λ k. alike k x) (filter (λ z. not (alike y z)) zs) ≡ some_pass (λ k. alike k x) zs
  skip y x n [] = refl
  skip y x n (z ∷ zs) = go (alike y z) refl (skip y x n zs)
    where
      go : (b : Bool) → alike y z ≡ b → some_pass (λ k. alike k x) (filter (λ w. not (alike y w)) zs) ≡ some_pass (λ k. alike k x) zs → some_pass (λ k. alike k x) (cond (not b) (z ∷ filter (λ w. not (alike y w)) zs) (filter (λ w. not (alike y w)) zs)) ≡ (alike z x || some_pass (λ k. alike k x) zs)
      go true e r =
          let other : alike z x ≡ false = ap (λ (v : X). same v (f x)) (sym ((eq (f y) (f z)).0 e)) ∙ n in
          rw other r
      go false e r = ap (λ (b : Bool). alike z x || b) r

  pub firsts_push : (xs : List K) (x : K) → firsts alike (xs ++ x ∷ []) ≡ firsts alike xs ++ cond (some_pass (λ k. alike k x) (firsts alike xs)) [] (x ∷ [])
  firsts_push [] x = refl
  firsts_push (y ∷ xs) x =
      let old = firsts alike xs in
      let q : K → Bool = λ z. not (alike y z) in
      let b = some_pass (λ k. alike k x) old in
      ap (λ (l : List K). y ∷ l) (ap (filter q) (firsts_push xs x) ∙ filter-append q old (cond b [] (x ∷ [])) ∙ ap (λ (l : List K). filter q old ++ l) (last old (alike y x) refl))
    where
      out : (b : Bool) → alike y x ≡ true → filter (λ z. not (alike y z)) (cond b [] (x ∷ [])) ≡ []
      out true e = refl
      out false e = rw e

      stay : (b : Bool) → alike y x ≡ false → filter (λ z. not (alike y z)) (cond b [] (x ∷ [])) ≡ cond b [] (x ∷ [])
      stay true e = refl
      stay false e = rw e

      last : (old : List K) (a : Bool) → alike y x ≡ a → filter (λ z. not (alike y z)) (cond (some_pass (λ k. alike k x) old) [] (x ∷ [])) ≡ cond (a || some_pass (λ k. alike k x) (filter (λ z. not (alike y z)) old)) [] (x ∷ [])
      last old true e = out (some_pass (λ k. alike k x) old) e
      last old false e = stay (some_pass (λ k. alike k x) old) e ∙ ap (λ (b : Bool). cond b [] (x ∷ [])) (sym (skip y x e old))

  -- ---- how many
  pub firsts_out : (xs : List K) (k : K) → In k (firsts alike xs) → In k xs
  firsts_out [] k h = h
  firsts_out (x ∷ xs) k (inl e) = inl e
  firsts_out (x ∷ xs) k (inr h) = inr (firsts_out xs k (from_kept (λ z. not (alike x z)) (firsts alike xs) k h).0)

  behind : (x : K) (xs : List K) → map f (filter (λ z. not (alike x z)) (firsts alike xs)) ≡ filter (λ v. not (same (f x) v)) (map f (firsts alike xs))
  behind x xs = map_kept (λ v. not (same (f x) v)) f (firsts alike xs)

  pub firsts_differ : (xs : List K) → NoRepeats (map f (firsts alike xs))
  firsts_differ [] = tt
  firsts_differ (x ∷ xs) = (apart, rw (behind x xs) (no_repeats_kept (λ v. not (same (f x) v)) (map f (firsts alike xs)) (firsts_differ xs)))
    where
      apart : In (f x) (map f (filter (λ z. not (alike x z)) (firsts alike xs))) → ⊥
      apart h =
          let t = from_map f (filter (λ z. not (alike x z)) (firsts alike xs)) (f x) h in
          let n = (from_kept (λ z. not (alike x z)) (firsts alike xs) t.0 t.1).1 in
          true≢false (sym ((eq (f x) (f t.0)).1 t.2) ∙ not-true (alike x t.0) n)

  pub firsts_all : (xs : List K) (k : K) → In k xs → In (f k) (map f (firsts alike xs))
  firsts_all [] k h = absurd h
  firsts_all (x ∷ xs) k (inl e) = inl (ap f e)
  firsts_all (x ∷ xs) k (inr h) = go (decide same eq (f x) (f k)) (firsts_all xs k h)
    where
      go : (f x ≡ f k) ⊎ (f x ≡ f k → ⊥) → In (f k) (map f (firsts alike xs)) → In (f k) (map f (firsts alike (x ∷ xs)))
      go (inl e) r = inl (sym e)
      go (inr n) r = inr (rw (behind x xs) (in_kept (λ v. not (same (f x) v)) (map f (firsts alike xs)) (f k) r (not_from_false (same (f x) (f k)) (differ same eq (f x) (f k) n))))

  pub firsts_few : (xs : List K) → length (firsts alike xs) ≤ length xs
  firsts_few [] = omega arith
  firsts_few (x ∷ xs) = omega (arith, firsts_few xs, length_kept_le (λ z. not (alike x z)) (firsts alike xs))

  -- the different values, ascending, are as many
  pub firsts_count : (less : X → X → Bool) → StrictTotal less → (xs : List K) → length (firsts alike xs) ≡ length (sorted less (map f xs))
  firsts_count less O xs =
      let own = map f (firsts alike xs) in
      let all = sorted less (map f xs) in
      let down : length own ≤ length all = fits same eq own all (firsts_differ xs) (λ v h. let t = from_map f (firsts alike xs) v h in in_cast all (sym t.2) (sorted_in less O (map f xs) (f t.0) (in_map f xs t.0 (firsts_out xs t.0 t.1)))) in
      let up : length all ≤ length own = fits same eq all own (sorted_no_repeats less O (map f xs)) (λ v h. let t = from_map f xs v (sorted_out less O (map f xs) v h) in in_cast own (sym t.2) (firsts_all xs t.0 t.1)) in
      sym (length-map (firsts alike xs) f) ∙ le_antisymm down up
