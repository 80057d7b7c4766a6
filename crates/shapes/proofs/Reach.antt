-- A connected shape reaches less far than it has cells: along each coordinate it has a cell at each number on the way.
use Rattle.std.proofs.Common.{◌≡◌, ℕ, zero, suc, ◌+◌, ◌<◌, ◌≤◌, List, [], ◌∷◌, map, length, ℤ, pos, negsuc, ◌+ℤ◌, neg_ℤ, nat_abs, ◌≤ℤ◌, sym, refl, ap, ◌∙◌, inl, inr, arith}
use lib.IntN.{neg_ℤ-+ℤ}
use lib.ListN.{length-map}
use lib.Signed.{lt_z}
use Rattle.std.specs.List.{AllByRecursion}
use Rattle.std.proofs.lemmas.Int.{ints, by_lt_z}
use Rattle.ordered.specs.Members.{In, NoRepeats}
use Rattle.ordered.proofs.Members.{in_cast, in_map, from_map, all_in}
use Rattle.ordered.proofs.Counting.{fits}
use Rattle.ordered.proofs.Orders.{neither, same_by}
use Rattle.lattice.specs.declared.cell.Cell.{Cell}
use Rattle.lattice.specs.Cells.{origin, Within, plus}
use Rattle.lattice.specs.Coordinates.{whole_order}
use Rattle.shapes.specs.Connected.{Reached, at_start, onward, Connected}
use Rattle.shapes.specs.Positions.{neighbours, ShortOf}
use Rattle.shapes.proofs.Bounds.{short_within}

-- ---- the numbers n − 1 down to 0
downs : ℕ → List ℤ
downs zero = []
downs (suc n) = pos n ∷ downs n

downs_out : (n : ℕ) (x : ℤ) → In x (downs n) → (j : ℕ) × (j < n) × (x ≡ pos j)
unfolding downs
downs_out zero x h = absurd h
downs_out (suc n) x (inl e) = (n, omega arith, e)
downs_out (suc n) x (inr h) = let t = downs_out n x h in (t.0, omega (arith, t.1), t.2)

downs_no_repeats : (n : ℕ) → NoRepeats (downs n)
unfolding downs
downs_no_repeats zero = tt
downs_no_repeats (suc n) = (λ h. let t = downs_out n (pos n) h in let e : n ≡ t.0 = cc t.2 in omega (arith, e, t.1), downs_no_repeats n)

length_downs : (n : ℕ) → length (downs n) ≡ n
unfolding downs
length_downs zero = refl
length_downs (suc n) = ap suc (length_downs n)

-- ---- one coordinate, or its negative
module _ (ds s : List Cell) (p : Cell → ℤ) (at-0 : p origin ≡ pos 0) (adds : (x d : Cell) → p (plus x d) ≡ p x +ℤ p d) (slow : (d : Cell) → In d ds → p d ≤ℤ pos 1) where
  -- on the way to y there is a cell at each number from 0 to that of y
  between : {y : Cell} → Reached (neighbours ds) origin s y → (j : ℕ) → pos j ≤ℤ p y → (z : Cell) × In z s × (p z ≡ pos j)
  between (at_start {x = x} e h) j l = let q : p x ≡ pos 0 = ap p e ∙ at-0 in (x, h, q ∙ ap pos (omega (arith, ints)))
  between (onward {x = x} {y = y} k n h) j l =
      by_lt_z (p x) (pos j)
      (λ b. let t = from_map (plus x) ds y n in let f = ap p t.2 ∙ adds x t.0 in let g = slow t.0 t.1 in (y, h, omega (arith, ints)))
      (λ b. between k j b)

  far : (y : Cell) (k : ℕ) → p y ≡ pos k → Reached (neighbours ds) origin s y → k < length s
  far y k e l = omega (arith, length_downs (suc k), length-map s p, fits (neither lt_z) (same_by lt_z whole_order) (downs (suc k)) (map p s) (downs_no_repeats (suc k)) all)
    where
      low : (j : ℕ) → j < suc k → pos j ≤ℤ p y
      low j m = omega (arith, ints)

      all : (x : ℤ) → In x (downs (suc k)) → In x (map p s)
      all x h =
          let t = downs_out (suc k) x h in
          let b = between l t.0 (low t.0 t.1) in
          in_cast (map p s) (b.2 ∙ sym t.2) (in_map p s b.0 b.1)

along : (ds s : List Cell) (p : Cell → ℤ) → p origin ≡ pos 0 → ((x d : Cell) → p (plus x d) ≡ p x +ℤ p d) → ((d : Cell) → In d ds → (negsuc 0 ≤ℤ p d) × (p d ≤ℤ pos 1)) → (y : Cell) → Reached (neighbours ds) origin s y → nat_abs (p y) < length s
along ds s p at-0 adds slow y l = go (p y) refl
  where
    go : (v : ℤ) → p y ≡ v → nat_abs v < length s
    go (pos k) e = far ds s p at-0 adds (λ d h. (slow d h).1) y k e l
    go (negsuc k) e = far ds s (λ x. neg_ℤ (p x)) (ap neg_ℤ at-0) (λ x d. ap neg_ℤ (adds x d) ∙ neg_ℤ-+ℤ (p x) (p d)) (λ d h. let b = (slow d h).0 in omega (arith, ints)) y (suc k) (ap neg_ℤ e) l

-- ---- all three
pub reached_short : (ds s : List Cell) → AllByRecursion (Within 1) ds → (y : Cell) → Reached (neighbours ds) origin s y → ShortOf (length s) y
reached_short ds s short y l =
    let step = all_in (Within 1) ds short in
    (along ds s (λ x. x.a) refl (λ x d. refl) (λ d q. ((step d q).0, (step d q).1)) y l, along ds s (λ x. x.b) refl (λ x d. refl) (λ d q. ((step d q).2, (step d q).3)) y l, along ds s (λ x. x.c) refl (λ x d. refl) (λ d q. ((step d q).4, (step d q).5)) y l)

short_more : (n m : ℕ) (x : Cell) → n ≤ m → ShortOf n x → ShortOf m x
short_more n m x l h = (omega arith, omega arith, omega arith)

-- so a connected set of up to n + 1 cells lies from −n to n
pub connected_within : (ds s : List Cell) (n : ℕ) → AllByRecursion (Within 1) ds → Connected (neighbours ds) origin s → length s ≤ n + 1 → (x : Cell) → In x s → Within n x
connected_within ds s n short con l x h = short_within n x (short_more (length s) (n + 1) x l (reached_short ds s short x (con x h)))
