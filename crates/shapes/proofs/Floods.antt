-- A flood holds exactly what is reached.
use Rattle.std.proofs.Common.{◌≡◌, ℕ, zero, suc, ◌<◌, ◌≤◌, Bool, true, false, cond, int_eq, ◌&&◌, ◌||◌, ◌⊎◌, ◌↔◌, List, [], ◌∷◌, length, Decides, filter, sym, refl, ap, ◌∙◌, subst, inl, inr, ⊎_elim, arith, rules}
use Rattle.std.specs.Ordering.{is_eq}
use Rattle.std.proofs.lemmas.Bool.{cases_eq, or_cases, or_left, or_right, false≢true, eqb-true, eq-eqb}
use Rattle.ordered.specs.Members.{In}
use Rattle.ordered.specs.Orders.{rank}
use Rattle.ordered.proofs.Members.{in_cast, in_kept, from_kept}
use Rattle.ordered.proofs.Counting.{Equality}
use Rattle.ordered.proofs.Kept.{length_kept_le, kept_all, length_kept_all, kept_wider}
use Rattle.ordered.proofs.Orders.{is_equal, same_rank, less_rank, equal_rank}
use Rattle.lattice.specs.declared.cell.Cell.{Cell}
use Rattle.lattice.specs.Cells.{origin, cell_less}
use Rattle.lattice.specs.Coordinates.{cell_order}
use Rattle.shapes.specs.Connected.{Reached, at_start, onward, Connected}
use Rattle.shapes.specs.Floods.{some_pass, touches, spread, flooded, flood, same_cell, connected}
use Rattle.shapes.specs.Positions.{neighbours, NormalPosition}

-- ---- tests on lists
pub some_pass_says : {X : Type 0} (p : X → Bool) (xs : List X) → some_pass p xs ≡ true → (x : X) × In x xs × (p x ≡ true)
some_pass_says p [] e = absurd (false≢true e)
some_pass_says {X} p (x ∷ xs) e = go (or_cases (p x) (some_pass p xs) e) (some_pass_says p xs)
  where
    go : (p x ≡ true) ⊎ (some_pass p xs ≡ true) → (some_pass p xs ≡ true → (y : X) × In y xs × (p y ≡ true)) → (y : X) × In y (x ∷ xs) × (p y ≡ true)
    go (inl h) r = (x, inl refl, h)
    go (inr h) r = let t = r h in (t.0, inr t.1, t.2)

pub some_pass_from : {X : Type 0} (p : X → Bool) (xs : List X) (x : X) → In x xs → p x ≡ true → some_pass p xs ≡ true
some_pass_from p [] x h e = absurd h
some_pass_from p (y ∷ ys) x (inl q) e = or_left (p y) (some_pass p ys) (sym (ap p q) ∙ e)
some_pass_from p (y ∷ ys) x (inr h) e = or_right (p y) (some_pass p ys) (some_pass_from p ys x h e)

kept_none : {X : Type 0} (p : X → Bool) (xs : List X) → ((x : X) → In x xs → p x ≡ false) → filter p xs ≡ []
kept_none p [] h = refl
kept_none p (x ∷ xs) h = rw (h x (inl refl)) (kept_none p xs (λ y q. h y (inr q)))

-- the origin is once in cells in normal position
pub origin_kept : (s : List Cell) → NormalPosition s → origin ∷ [] ≡ filter (same_cell origin) s
origin_kept [] p = absurd p.from_origin
origin_kept (x ∷ xs) p =
    let rest = kept_none (same_cell origin) xs (λ y h. ap is_eq (less_rank cell_less origin y (rw p.from_origin at (p.ascending.0 y h)))) in
    let here : same_cell origin x ≡ true = ap is_eq (equal_rank cell_less cell_order origin x (sym p.from_origin)) in
    ap (λ z. z ∷ []) (sym p.from_origin) ∙ sym (ap (λ b. cond b (x ∷ filter (same_cell origin) xs) (filter (same_cell origin) xs)) here ∙ ap (λ l. x ∷ l) rest)

module _ {X : Type 0} (same : X → X → Bool) (eq : Equality same) (near : X → List X) (start : X) (s : List X) where
  -- ---- one round
  touches_says : (r : List X) (y : X) → touches same near r y ≡ true → In y r ⊎ ((x : X) × In x r × In y (near x))
  touches_says r y e = let t = some_pass_says (λ x. same x y || some_pass (same y) (near x)) r e in go t.0 t.1 (or_cases (same t.0 y) (some_pass (same y) (near t.0)) t.2)
    where
      go : (x : X) → In x r → (same x y ≡ true) ⊎ (some_pass (same y) (near x) ≡ true) → In y r ⊎ ((x : X) × In x r × In y (near x))
      go x h (inl k) = inl (in_cast r ((eq x y).0 k) h)
      go x h (inr k) = let u = some_pass_says (same y) (near x) k in inr (x, h, in_cast (near x) (sym ((eq y u.0).0 u.2)) u.1)

  pub touches_itself : (r : List X) (y : X) → In y r → touches same near r y ≡ true
  touches_itself r y h = some_pass_from (λ x. same x y || some_pass (same y) (near x)) r y h (or_left (same y y) (some_pass (same y) (near y)) ((eq y y).1 refl))

  touches_near : (r : List X) (x y : X) → In x r → In y (near x) → touches same near r y ≡ true
  touches_near r x y h n = some_pass_from (λ z. same z y || some_pass (same y) (near z)) r x h (or_right (same x y) (some_pass (same y) (near x)) (some_pass_from (same y) (near x) y n ((eq y y).1 refl)))

  -- ---- each round keeps what there is
  abbrev rounds : ℕ → List X
  rounds k = flooded same near start s k

  rounds_kept : (k : ℕ) → (p : X → Bool) × (rounds k ≡ filter p s)
  rounds_kept zero = (same start, refl)
  rounds_kept (suc k) = (touches same near (rounds k), refl)

  pub rounds_in : (k : ℕ) (x : X) → In x (rounds k) → In x s
  rounds_in k x h = let t = rounds_kept k in (from_kept t.0 s x (subst (In x) t.1 h)).0

  rounds_start : (k : ℕ) → In start s → In start (rounds k)
  rounds_start zero h = in_kept (same start) s start h ((eq start start).1 refl)
  rounds_start (suc k) h = in_kept (touches same near (rounds k)) s start h (touches_itself (rounds k) start (rounds_start k h))

  -- ---- until nothing more is next to it
  abbrev Still : List X → Type 0
  Still r = spread same near s r ≡ r

  -- then later rounds add nothing
  pub still_later : (k n : ℕ) → Still (rounds k) → k ≤ n → rounds n ≡ rounds k
  still_later k zero e l = let q : 0 ≡ k = omega arith in ap rounds q
  still_later k (suc n) e l = ⊎_elim (λ q. ap rounds (sym q)) (λ q. ap (spread same near s) (still_later k n e (omega arith)) ∙ e) (cases_eq k (suc n))

  pub still_or_more : (k : ℕ) → Still (rounds k) ⊎ (length (rounds k) < length (rounds (suc k)))
  still_or_more k = let t = rounds_kept k in go t.0 t.1 (kept_wider t.0 (touches same near (rounds k)) s (λ x h e. touches_itself (rounds k) x (subst (In x) (sym t.1) (in_kept t.0 s x h e))))
    where
      go : (p : X → Bool) → rounds k ≡ filter p s → (rounds (suc k) ≡ filter p s) ⊎ (length (filter p s) < length (rounds (suc k))) → Still (rounds k) ⊎ (length (rounds k) < length (rounds (suc k)))
      go p f (inl e) = inl (e ∙ sym f)
      go p f (inr l) = inr (omega (arith, ap length f))

  -- with all cells there, no round adds any
  pub full_still : (k : ℕ) → length (rounds k) ≡ length s → Still (rounds k)
  full_still k e = ⊎_elim (λ q. q) (λ l. absurd (omega (arith, l, e, length_kept_le (touches same near (rounds k)) s))) (still_or_more k)

  still_or_long : (k : ℕ) → Still (rounds k) ⊎ (k ≤ length (rounds k))
  still_or_long zero = inr (omega arith)
  still_or_long (suc k) = go (still_or_long k) (still_or_more k)
    where
      go : Still (rounds k) ⊎ (k ≤ length (rounds k)) → Still (rounds k) ⊎ (length (rounds k) < length (rounds (suc k))) → Still (rounds (suc k)) ⊎ (suc k ≤ length (rounds (suc k)))
      go (inl e) m = inl (ap (spread same near s) e)
      go (inr l) (inl e) = inl (ap (spread same near s) e)
      go (inr l) (inr m) = inr (omega arith)

  flood_still : Still (flood same near start s)
  flood_still = go (still_or_long (length s)) (still_or_more (length s))
    where
      go : Still (rounds (length s)) ⊎ (length s ≤ length (rounds (length s))) → Still (rounds (length s)) ⊎ (length (rounds (length s)) < length (rounds (suc (length s)))) → Still (rounds (length s))
      go (inl e) m = e
      go (inr l) (inl e) = e
      go (inr l) (inr m) = absurd (omega (arith, length_kept_le (touches same near (rounds (length s))) s))

  -- ---- both ways
  pub flooded_reached : (k : ℕ) (x : X) → In x (rounds k) → Reached near start s x
  flooded_reached zero x h = let t = from_kept (same start) s x h in at_start (sym ((eq start x).0 t.1)) t.0
  flooded_reached (suc k) x h = let t = from_kept (touches same near (rounds k)) s x h in go (touches_says (rounds k) x t.1) t.0 (flooded_reached k)
    where
      go : In x (rounds k) ⊎ ((z : X) × In z (rounds k) × In x (near z)) → In x s → ((y : X) → In y (rounds k) → Reached near start s y) → Reached near start s x
      go (inl q) i r = r x q
      go (inr q) i r = onward (r q.0 q.1) q.2 i

  pub flood_reached : (x : X) → In x (flood same near start s) → Reached near start s x
  flood_reached x h = flooded_reached (length s) x h

  pub reached_flood : {x : X} → Reached near start s x → In x (flood same near start s)
  reached_flood (at_start e h) = in_cast (rounds (length s)) (sym e) (rounds_start (length s) (in_cast s e h))
  reached_flood (onward {x = x} {y = y} k n h) = subst (In y) flood_still (in_kept (touches same near (rounds (length s))) s y h (touches_near (rounds (length s)) x y (reached_flood k) n))

  pub reached_iff_flood : (x : X) → Reached near start s x ↔ In x (flood same near start s)
  reached_iff_flood x = (λ r. reached_flood r, flood_reached x)

  -- ---- a set is connected if its flood leaves nothing out
  pub flood_length_le : length (flood same near start s) ≤ length s
  flood_length_le = let t = rounds_kept (length s) in rw t.1 (length_kept_le t.0 s)

  pub connected_by_flood : length (flood same near start s) ≡ length s → Connected near start s
  connected_by_flood e x h = let t = rounds_kept (length s) in flood_reached x (subst (In x) (sym t.1) (in_kept t.0 s x h (kept_all t.0 s (ap length (sym t.1) ∙ e) x h)))

  pub flood_by_connected : Connected near start s → length (flood same near start s) ≡ length s
  flood_by_connected con = let t = rounds_kept (length s) in ap length t.1 ∙ length_kept_all t.0 s (λ x h. (from_kept t.0 s x (subst (In x) t.1 (reached_flood (con x h)))).1)

-- ---- cells
-- the comparison of cells by `==`
abbrev pub same_numbers : Cell → Cell → Bool
same_numbers y x = int_eq y.a x.a && (int_eq y.b x.b && int_eq y.c x.c)

pub same_is : (y x : Cell) → same_numbers y x ≡ same_cell x y
same_is y x = search rules

pub same_cell_equality : Equality same_cell
same_cell_equality x y = (λ e. same_rank cell_less cell_order x y (is_equal (rank cell_less x y) e), λ e. ap is_eq (equal_rank cell_less cell_order x y e))

pub connected_decides : (ds s : List Cell) → Decides (connected ds s) (Connected (neighbours ds) origin s)
connected_decides ds s = (
  λ e. connected_by_flood same_cell same_cell_equality (neighbours ds) origin s (eqb-true _ _ e),
  λ c. eq-eqb _ _ (flood_by_connected same_cell same_cell_equality (neighbours ds) origin s c),
)
