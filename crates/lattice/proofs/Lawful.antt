-- The rules of a lattice whose motions are given by number, from one test that is computed.
use Rattle.std.proofs.Common.{◌≡◌, ℕ, zero, suc, ◌<◌, ◌≤◌, Bool, true, false, not, ◌&&◌, ◌||◌, eqb, ltb, leb, List, [], ◌∷◌, map, length, sym, refl, ap, ◌∙◌, inl, inr, ⊎_elim, zero-add}
use Rattle.std.specs.List.{range_with_len, AllByRecursion, list_all}
use Rattle.std.proofs.lemmas.List.FromFn.{length-map-range_with_len, get_or-map-range_with_len}
use Rattle.std.proofs.lemmas.Bool.{and_parts, or_cases, eqb-true, ltb-true, lt-ltb, leb-true, true≢false, false≢true, not-true}
use Rattle.std.proofs.lemmas.Bool.Decides.{Decides-below_and}
use Rattle.ordered.specs.Members.{In, NoRepeats}
use Rattle.ordered.proofs.Counting.{Equality}
use Rattle.ordered.proofs.Members.{in_cast, in_get_or, get_or_from_in, all_from_in}
use Rattle.lattice.specs.declared.cell.Cell.{Cell}
use Rattle.lattice.specs.Cells.{origin, opposite, Within, within}
use Rattle.lattice.specs.Matrices.{Matrix, image, product, identity, Small, same_matrix}
use Rattle.lattice.specs.Lattices.{motion, number_after, NameLetter, Name, Rules}
use Rattle.lattice.specs.Coordinates.{within_says}
use Rattle.lattice.proofs.Numbers.{number_at}
use Rattle.lattice.proofs.Products.{matrix_equality, same_cell, cell_equality}

-- ---- tests of lists
-- what a test of each item tells of one of them
passes : {X : Type 0} (p : X → Bool) (xs : List X) → list_all p xs ≡ true → (x : X) → In x xs → p x ≡ true
passes p [] e x h = absurd h
passes p (y ∷ ys) e x (inl q) = ap p q ∙ (and_parts (p y) (list_all p ys) e).0
passes p (y ∷ ys) e x (inr h) = passes p ys (and_parts (p y) (list_all p ys) e).1 x h

all_from : {X : Type 0} (p : X → Bool) (P : X → Type 0) → ((x : X) → p x ≡ true → P x) → (xs : List X) → list_all p xs ≡ true → AllByRecursion P xs
all_from p P says [] e = tt
all_from p P says (x ∷ xs) e = let t = and_parts (p x) (list_all p xs) e in (says x t.0, all_from p P says xs t.1)

abbrev all_below : ℕ → (ℕ → Bool) → Bool
all_below zero p = true
all_below (suc k) p = p k && all_below k p

each_below : (p : ℕ → Bool) (n : ℕ) → all_below n p ≡ true → (k : ℕ) → k < n → p k ≡ true
each_below p n e = (Decides-below_and p (λ k. p k ≡ true) (λ k. all_below k p) (λ k. ((λ h. h), (λ h. h))) refl (λ k. refl) n).0 e

abbrev has : {X : Type 0} → (X → X → Bool) → X → List X → Bool
has same x [] = false
has same x (y ∷ ys) = same x y || has same x ys

abbrev is_distinct : {X : Type 0} → (X → X → Bool) → List X → Bool
is_distinct same [] = true
is_distinct same (x ∷ xs) = list_all (λ y. not (same x y)) xs && is_distinct same xs

module _ {X : Type 0} (same : X → X → Bool) (eq : Equality same) where
  has_in : (x : X) (xs : List X) → has same x xs ≡ true → In x xs
  has_in x [] e = absurd (false≢true e)
  has_in x (y ∷ ys) e = ⊎_elim (λ h. inl ((eq x y).0 h)) (λ h. inr (has_in x ys h)) (or_cases (same x y) (has same x ys) e)

  differ : (xs : List X) → is_distinct same xs ≡ true → NoRepeats xs
  differ [] e = tt
  differ (x ∷ xs) e =
      let t = and_parts (list_all (λ y. not (same x y)) xs) (is_distinct same xs) e in
      ((λ h. true≢false (sym ((eq x x).1 refl) ∙ not-true (same x x) (passes (λ y. not (same x y)) xs t.0 x h))), differ xs t.1)

-- ---- tests of cells, matrices and names
small : Matrix → Bool
small m = within 1 m.to_a && (within 1 m.to_b && within 1 m.to_c)

small_small : (m : Matrix) → small m ≡ true → Small m
unfolding small
small_small m e =
    let p = and_parts (within 1 m.to_a) (within 1 m.to_b && within 1 m.to_c) e in
    let q = and_parts (within 1 m.to_b) (within 1 m.to_c) p.1 in
    (within_says 1 m.to_a p.0, within_says 1 m.to_b q.0, within_says 1 m.to_c q.1)

letter : ℕ → Bool
letter b = eqb b 45 || (leb 97 b && leb b 122)

letter_letter : (b : ℕ) → letter b ≡ true → NameLetter b
unfolding letter
letter_letter b e = ⊎_elim (λ h. inl (eqb-true b 45 h)) (λ h. let t = and_parts (leb 97 b) (leb b 122) h in inr (leb-true 97 b t.0, leb-true b 122 t.1)) (or_cases (eqb b 45) (leb 97 b && leb b 122) e)

-- ---- a lattice given by its name, directions, motions by number and their count, one-sided set, products and inverses by number
module _ (name : List ℕ) (ds : List Cell) (f : ℕ → Matrix) (n : ℕ) (os : ℕ → Bool) (table : ℕ → ℕ → ℕ) (undo : ℕ → ℕ) where
  abbrev ms : List Matrix
  ms = map f (range_with_len 0 n)

  lawful_name : Bool
  lawful_name = leb 1 (length name) && (leb (length name) 9 && list_all letter name)

  lawful_direction : Cell → Bool
  lawful_direction d = within 1 d && (not (same_cell origin d) && has same_cell (opposite d) ds)

  lawful_directions : Bool
  lawful_directions = leb 1 (length ds) && (leb (length ds) 26 && (is_distinct same_cell ds && list_all lawful_direction ds))

  -- what is tested of one motion
  lawful_motion : ℕ → Bool
  lawful_motion g = small (f g) && (list_all (λ d. has same_cell (image (f g) d) ds) ds && (ltb (undo g) n && eqb (table (undo g) g) 0))

  lawful_motions : Bool
  lawful_motions = leb 1 n && (leb n 48 && (same_matrix (f 0) identity && (is_distinct same_matrix (map f (range_with_len 0 n)) && all_below n lawful_motion)))

  -- what is tested of two motions
  lawful_after : ℕ → ℕ → Bool
  lawful_after g h =
      ltb (table g h) n && (same_matrix (f (table g h)) (product (f g) (f h)) && (not (os g && os h) || os (table g h)))

  lawful_afters : Bool
  lawful_afters = os 0 && all_below n (λ g. all_below n (lawful_after g))

  -- the test of all rules
  unfoldable pub lawful : Bool
  unfolding lawful_name letter lawful_directions lawful_direction lawful_motions lawful_motion small lawful_afters lawful_after
  lawful = lawful_name && (lawful_directions && (lawful_motions && lawful_afters))

  module _ (ok : lawful ≡ true) where
    four : (lawful_name ≡ true) × (lawful_directions ≡ true) × (lawful_motions ≡ true) × (lawful_afters ≡ true)
    unfolding lawful
    four =
        let p = and_parts lawful_name (lawful_directions && (lawful_motions && lawful_afters)) ok in
        let q = and_parts lawful_directions (lawful_motions && lawful_afters) p.1 in
        let r = and_parts lawful_motions lawful_afters q.1 in
        (p.0, q.0, r.0, r.1)

    count_is : length ms ≡ n
    count_is = length-map-range_with_len f 0 n

    motion_is : (g : ℕ) → g < n → motion ms g ≡ f g
    motion_is g h = get_or-map-range_with_len f 0 n g g identity h (zero-add g)

    in_motions : (g : ℕ) → g < n → In (f g) ms
    in_motions g h = in_cast ms (motion_is g h) (in_get_or ms g identity (rw count_is h))

    from_motions : (m : Matrix) → In m ms → (g : ℕ) × (g < n) × (m ≡ f g)
    from_motions m h =
        let t = get_or_from_in ms m h in
        let l : t.0 < n = rw count_is at t.1 in
        (t.0, l, sym (t.2 identity) ∙ motion_is t.0 l)

    name_parts : (leb 1 (length name) ≡ true) × ((leb (length name) 9 && list_all letter name) ≡ true)
    unfolding lawful_name
    name_parts = and_parts (leb 1 (length name)) (leb (length name) 9 && list_all letter name) four.0

    name_rule : Name name
    name_rule =
        let t = and_parts (leb (length name) 9) (list_all letter name) name_parts.1 in
        record {
          some = leb-true 1 (length name) name_parts.0;
          short = leb-true (length name) 9 t.0;
          letters = all_from letter NameLetter letter_letter name t.1;
        }

    directions_parts : (1 ≤ length ds) × (length ds ≤ 26) × NoRepeats ds × (list_all lawful_direction ds ≡ true)
    unfolding lawful_directions
    directions_parts =
        let p = and_parts (leb 1 (length ds)) (leb (length ds) 26 && (is_distinct same_cell ds && list_all lawful_direction ds)) four.1 in
        let q = and_parts (leb (length ds) 26) (is_distinct same_cell ds && list_all lawful_direction ds) p.1 in
        let r = and_parts (is_distinct same_cell ds) (list_all lawful_direction ds) q.1 in
        (leb-true 1 (length ds) p.0, leb-true (length ds) 26 q.0, differ same_cell cell_equality ds r.0, r.1)

    direction_parts : (d : Cell) → lawful_direction d ≡ true → (within 1 d ≡ true) × (not (same_cell origin d) ≡ true) × (has same_cell (opposite d) ds ≡ true)
    unfolding lawful_direction
    direction_parts d e =
        let p = and_parts (within 1 d) (not (same_cell origin d) && has same_cell (opposite d) ds) e in
        let q = and_parts (not (same_cell origin d)) (has same_cell (opposite d) ds) p.1 in
        (p.0, q.0, q.1)

    direction_of : (d : Cell) → In d ds → lawful_direction d ≡ true
    direction_of = passes lawful_direction ds directions_parts.3

    motions_parts : (1 ≤ n) × (n ≤ 48) × (f 0 ≡ identity) × NoRepeats ms × ((g : ℕ) → g < n → lawful_motion g ≡ true)
    unfolding lawful_motions
    motions_parts =
        let p = and_parts (leb 1 n) (leb n 48 && (same_matrix (f 0) identity && (is_distinct same_matrix ms && all_below n lawful_motion))) four.2 in
        let q = and_parts (leb n 48) (same_matrix (f 0) identity && (is_distinct same_matrix ms && all_below n lawful_motion)) p.1 in
        let r = and_parts (same_matrix (f 0) identity) (is_distinct same_matrix ms && all_below n lawful_motion) q.1 in
        let s = and_parts (is_distinct same_matrix ms) (all_below n lawful_motion) r.1 in
        (leb-true 1 n p.0, leb-true n 48 q.0, (matrix_equality (f 0) identity).0 r.0, differ same_matrix matrix_equality ms s.0, each_below lawful_motion n s.1)

    motion_parts : (g : ℕ) → g < n → (small (f g) ≡ true) × (list_all (λ d. has same_cell (image (f g) d) ds) ds ≡ true) × (undo g < n) × (table (undo g) g ≡ 0)
    unfolding lawful_motion
    motion_parts g h =
        let p = and_parts (small (f g)) (list_all (λ d. has same_cell (image (f g) d) ds) ds && (ltb (undo g) n && eqb (table (undo g) g) 0)) (motions_parts.4 g h) in
        let q = and_parts (list_all (λ d. has same_cell (image (f g) d) ds) ds) (ltb (undo g) n && eqb (table (undo g) g) 0) p.1 in
        let r = and_parts (ltb (undo g) n) (eqb (table (undo g) g) 0) q.1 in
        (p.0, q.0, ltb-true (undo g) n r.0, eqb-true (table (undo g) g) 0 r.1)

    afters_parts : (os 0 ≡ true) × ((g h : ℕ) → g < n → h < n → lawful_after g h ≡ true)
    unfolding lawful_afters
    afters_parts =
        let p = and_parts (os 0) (all_below n (λ g. all_below n (lawful_after g))) four.3 in
        (p.0, λ g h k l. each_below (lawful_after g) n (each_below (λ j. all_below n (lawful_after j)) n p.1 g k) h l)

    after_parts : (g h : ℕ) → g < n → h < n → (table g h < n) × (f (table g h) ≡ product (f g) (f h)) × ((not (os g && os h) || os (table g h)) ≡ true)
    unfolding lawful_after
    after_parts g h k l =
        let p = and_parts (ltb (table g h) n) (same_matrix (f (table g h)) (product (f g) (f h)) && (not (os g && os h) || os (table g h))) (afters_parts.1 g h k l) in
        let q = and_parts (same_matrix (f (table g h)) (product (f g) (f h))) (not (os g && os h) || os (table g h)) p.1 in
        (ltb-true (table g h) n p.0, (matrix_equality (f (table g h)) (product (f g) (f h))).0 q.0, q.1)

    -- the number of a product is the one that the table has
    pub after_is : (g h : ℕ) → g < n → h < n → number_after ms g h ≡ table g h
    after_is g h k l =
        let t = after_parts g h k l in
        let e : product (motion ms g) (motion ms h) ≡ motion ms (table g h) =
        ap (λ m. product m (motion ms h)) (motion_is g k) ∙ ap (product (f g)) (motion_is h l) ∙ sym t.1 ∙ sym (motion_is (table g h) t.0) in
        rw (count_is, lt-ltb g n k, lt-ltb h n l, e) (number_at ms (table g h) identity motions_parts.3 (rw count_is t.0))

    -- and so it is everywhere, if the table has 0 beyond the count
    pub after_all : ((g h : ℕ) → (ltb g n && ltb h n) ≡ false → table g h ≡ 0) → (g h : ℕ) → number_after ms g h ≡ table g h
    after_all beyond g h = go (ltb g n && ltb h n) refl
      where
        go : (b : Bool) → (ltb g n && ltb h n) ≡ b → number_after ms g h ≡ table g h
        go true e = let t = and_parts (ltb g n) (ltb h n) e in after_is g h (ltb-true g n t.0) (ltb-true h n t.1)
        go false e = rw (count_is, e) (sym (beyond g h e))

    or_else : (p q r : Bool) → p ≡ true → q ≡ true → (not (p && q) || r) ≡ true → r ≡ true
    or_else true true r a b e = e
    or_else true false r a b e = absurd (false≢true b)
    or_else false q r a b e = absurd (false≢true a)

    pub rules : Rules name ds ms os
    rules = record {
      some_directions = directions_parts.0;
      few_directions = directions_parts.1;
      directions_differ = directions_parts.2;
      directions_move = λ h. true≢false (sym ((cell_equality origin origin).1 refl) ∙ not-true (same_cell origin origin) (direction_parts origin (direction_of origin h)).1);
      directions_short = all_from lawful_direction (Within 1) (λ d e. within_says 1 d (direction_parts d e).0) ds directions_parts.3;
      directions_back = λ d h. has_in same_cell cell_equality (opposite d) ds (direction_parts d (direction_of d h)).2;
      some_motions = rw count_is motions_parts.0;
      few_motions = rw count_is motions_parts.1;
      motions_differ = motions_parts.3;
      motions_small = all_from_in Small ms (λ m h. let t = from_motions m h in rw t.2 (small_small (f t.0) (motion_parts t.0 t.1).0));
      motion_0 = motion_is 0 motions_parts.0 ∙ motions_parts.2;
      directions_carried = λ m d h k.
          let t = from_motions m h in
          rw t.2 (has_in same_cell cell_equality (image (f t.0) d) ds (passes (λ x. has same_cell (image (f t.0) x) ds) ds (motion_parts t.0 t.1).1 d k));
      after_motion = λ g h k l.
          let t = from_motions g k in
          let u = from_motions h l in
          let p = after_parts t.0 u.0 t.1 u.1 in
          rw (t.2, u.2) (in_cast ms p.1 (in_motions (table t.0 u.0) p.0));
      undone = λ g h.
          let l : g < n = rw count_is at h in
          let t = motion_parts g l in
          (undo g, rw count_is t.2, after_is (undo g) g t.2 l ∙ t.3);
      one_sided_0 = afters_parts.0;
      one_sided_after = λ g h k l p q.
          let a : g < n = rw count_is at k in
          let b : h < n = rw count_is at l in
          rw (after_is g h a b) (or_else (os g) (os h) (os (table g h)) p q (after_parts g h a b).2);
      named = name_rule;
    }
