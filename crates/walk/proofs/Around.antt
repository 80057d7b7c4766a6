-- The cells of a lattice as a walk sees them: what is on a list of cells, and how far the cells of a place list are.
use Rattle.std.proofs.Common.{◌≡◌, ℕ, ◌+◌, ◌<◌, true, false, Some, None, Option, cond, not, ◌&&◌, ◌||◌, List, [], ◌∷◌, ◌++◌, length, get_or, drop, sym, refl, ap, ◌∙◌, subst, ap₂, inl, inr, ⊎_elim, arith, rules}
use lib.ListN.{length-map}
use Rattle.std.specs.Ordering.{is_lt, then_cmp, int_cmp, on as on_key}
use Rattle.std.specs.Option.{SomeIff}
use Rattle.std.specs.List.{AllByRecursion, list_all, list_any}
use Rattle.std.proofs.lemmas.List.{at_drop_more, get_or_past}
use Rattle.std.proofs.lemmas.Int.{ints}
use Rattle.std.proofs.Math.Bool.{and-false}
use Rattle.std.proofs.lemmas.Bool.{and_from, and_parts, cases_lt, cond-true}
use Rattle.ordered.specs.Members.{In}
use Rattle.ordered.proofs.Members.{in_get_or, from_map}
use Rattle.lattice.specs.declared.cell.Cell.{Cell}
use Rattle.lattice.specs.Cells.{origin, cell_less, Within, within, plus, Fits}
use Rattle.lattice.specs.Coordinates.{within_says}
use Rattle.shapes.specs.Positions.{neighbours}
use Rattle.shapes.proofs.Bounds.{plus_within, within_more, within_test}
use Rattle.shapes.proofs.Floods.{same_numbers, same_is}
use Rattle.walk.specs.Neighbourhoods.{on}
use Rattle.walk.specs.Places.{put, put_all, spread, cell_at, after_pick, places_from, first_places}
use Rattle.walk.specs.CellsAround.{cells_around}
use Rattle.walk.proofs.Places.{in_put_all}

module _ (ds : List Cell) where
  -- ---- what is on a list
  pub on_any : (xs : List Cell) (x : Cell) → list_any (λ y. same_numbers y x) xs ≡ on (cells_around ds) xs x
  unfolding cells_around
  on_any [] x = refl
  on_any (y ∷ ys) x = ap₂ (λ b d. b || d) (same_is y x) (on_any ys x)

  -- ---- in their words
  pub first_is : first_places (cells_around ds) ≡ origin ∷ []
  unfolding cells_around
  first_is = refl

  pub cell_is : (P : List Cell) (q : ℕ) → cell_at (cells_around ds) P q ≡ get_or P q origin
  unfolding cells_around
  cell_is P q = refl

  pub spread_is : (P : List Cell) (x : Cell) → spread (cells_around ds) P x ≡ put_all (cells_around ds) P (neighbours ds x)
  unfolding cells_around
  spread_is P x = refl

  pub put_new : (P : List Cell) (x : Cell) → cell_less origin x ≡ true → on (cells_around ds) P x ≡ false → put (cells_around ds) P x ≡ P ++ x ∷ []
  unfolding cells_around
  put_new P x a h = cond-true (cell_less origin x && not (on (cells_around ds) P x)) (P ++ x ∷ []) P (and_from (cell_less origin x) (not (on (cells_around ds) P x)) a (ap not h))

  pub put_below : (P : List Cell) (x : Cell) → cell_less origin x ≡ false → put (cells_around ds) P x ≡ P
  unfolding cells_around
  put_below P x h = ap (λ b. cond (b && not (on (cells_around ds) P x)) (P ++ x ∷ []) P) h

  pub put_there : (P : List Cell) (x : Cell) → on (cells_around ds) P x ≡ true → put (cells_around ds) P x ≡ P
  put_there P x h = ap (λ b. cond ((cells_around ds).above x && not b) (P ++ x ∷ []) P) h ∙ ap (λ b. cond b (P ++ x ∷ []) P) (and-false ((cells_around ds).above x))

  -- a neighbour is put on the list, and the others after it
  pub put_more : (P : List Cell) (x : Cell) (k : ℕ) → k < length ds → put_all (cells_around ds) P (neighbours (drop k ds) x) ≡ put_all (cells_around ds) (put (cells_around ds) P (plus x (get_or ds k origin))) (neighbours (drop (k + 1) ds) x)
  put_more P x k l = at_drop_more (λ r. put_all (cells_around ds) P (neighbours r x)) ds k origin l

-- the comparison of cells by `<`
pub less_is : (x y : Cell) → is_lt (then_cmp (on_key (λ z. z.c) int_cmp) (then_cmp (on_key (λ z. z.b) int_cmp) (on_key (λ z. z.a) int_cmp)) x y) ≡ cell_less x y
less_is x y = search rules

-- ---- how far
-- a cell not too far off has its neighbours
pub sum_is : (x y : Cell) (r : Option Cell) → Within 100 x → Within 1 y → SomeIff r (Fits (plus x y)) (plus x y) → r ≡ Some (plus x y)
sum_is x y (Some z) near short h = ap Some h.1
sum_is x y None near short h = absurd (h (omega (arith, ints), omega (arith, ints), omega (arith, ints)))

pub all_pass_within : (r : ℕ) (xs : List Cell) → AllByRecursion (Within r) xs → list_all (within r) xs ≡ true
all_pass_within r [] h = refl
all_pass_within r (x ∷ xs) h = and_from (within r x) (list_all (within r) xs) (within_test r x h.0) (all_pass_within r xs h.1)

pub within_all_pass : (r : ℕ) (xs : List Cell) → list_all (within r) xs ≡ true → (x : Cell) → In x xs → Within r x
within_all_pass r [] h x m = absurd m
within_all_pass r (y ∷ ys) h x (inl e) = within_says r x (ap (within r) e ∙ (and_parts (within r y) (list_all (within r) ys) h).0)
within_all_pass r (y ∷ ys) h x (inr m) = within_all_pass r ys (and_parts (within r y) (list_all (within r) ys) h).1 x m

abbrev pub AllWithin : ℕ → List Cell → Type 0
AllWithin r P = (x : Cell) → In x P → Within r x

origin_within : (r : ℕ) → Within r origin
origin_within r = (omega (arith, ints), omega (arith, ints), omega (arith, ints), omega (arith, ints), omega (arith, ints), omega (arith, ints))

pub first_within : AllWithin 0 (origin ∷ [])
first_within x (inl e) = subst (Within 0) (sym e) (origin_within 0)
first_within x (inr m) = absurd m

pub place_within : (r : ℕ) (P : List Cell) (q : ℕ) → AllWithin r P → Within r (get_or P q origin)
place_within r P q h =
    ⊎_elim (λ l. h (get_or P q origin) (in_get_or P q origin l)) (λ l. subst (Within r) (sym (get_or_past P q origin l)) (origin_within r)) (cases_lt q (length P))

module _ (ds : List Cell) (short : AllWithin 1 ds) where
  -- a step to a neighbour leads one further
  near_within : (r : ℕ) (x z : Cell) → Within r x → In z (neighbours ds x) → Within (r + 1) z
  near_within r x z w m = let (d, k, e) = from_map (plus x) ds z m in subst (Within (r + 1)) (sym e) (plus_within r 1 x d w (short d k))

  pub spread_within : (r : ℕ) (P : List Cell) (x : Cell) → AllWithin r P → Within r x → AllWithin (r + 1) (spread (cells_around ds) P x)
  spread_within r P x h w z m =
      ⊎_elim
      (λ k. within_more r (r + 1) z (omega arith) (h z k))
      (λ k. near_within r x z w k.0)
      (in_put_all (cells_around ds) P (neighbours ds x) z (subst (λ Q. In z Q) (spread_is ds P x) m))

  -- after as many picks, no cell of a place list is further off
  pub places_within : (r : ℕ) (P : List Cell) (p : List ℕ) → AllWithin r P → AllWithin (r + length p) (places_from (cells_around ds) P p)
  places_within r P [] h = subst (λ n. AllWithin n P) (omega arith) h
  places_within r P (q ∷ p) h =
      let g = cells_around ds in
      let w : Within r (cell_at g P q) = subst (Within r) (sym (cell_is ds P q)) (place_within r P q h) in
      subst (λ n. AllWithin n (places_from g (after_pick g P q) p)) (omega arith) (places_within (r + 1) (after_pick g P q) p (spread_within r P (cell_at g P q) h w))

pub near_few : (ds : List Cell) (x : Cell) → length ((cells_around ds).near x) ≡ length ds
unfolding cells_around
near_few ds x = length-map ds (plus x)
