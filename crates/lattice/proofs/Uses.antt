-- The motions of a kind: gathered one by one they are its list, and the list is closed.
use Rattle.std.proofs.Common.{◌≡◌, ℕ, ◌+◌, ◌<◌, Bool, true, false, ltb, List, [], ◌∷◌, ◌++◌, length, filter, sym, refl, ap, ◌∙◌, append-nil, zero-add, add-one, arith}
use Rattle.std.specs.List.{range_with_len}
use Rattle.std.proofs.lemmas.List.Elements.{filter-append}
use Rattle.std.proofs.lemmas.Bool.{lt-ltb, eqb-true, eq-eqb}
use Rattle.ordered.specs.Members.{In}
use Rattle.ordered.specs.Lookups.{inserted}
use Rattle.ordered.proofs.Ascending.{ascending_kept}
use Rattle.ordered.proofs.Counted.{counting_suc, from_counting, in_counting, ascending_counting, inserted_last}
use Rattle.ordered.proofs.Members.{in_kept, from_kept}
use Rattle.lattice.specs.declared.cell.Cell.{Cell}
use Rattle.lattice.specs.declared.kind.Kind.{Kind}
use Rattle.lattice.specs.declared.kind.Kind.TheVariants.{Fixed, OneSided, Free}
use Rattle.lattice.specs.Matrices.{Matrix, product, row_times, identity}
use Rattle.lattice.specs.Lattices.{motion, number_after, Rules}
use Rattle.lattice.specs.Kinds.{uses, kind_motions, Closed}
use Rattle.lattice.proofs.Numbers.{number_at, after_below}

-- ---- the numbers below n that pass a test, one by one
module _ (p : ℕ → Bool) (n : ℕ) where
  kept_suc : filter p (range_with_len 0 (n + 1)) ≡ filter p (range_with_len 0 n) ++ filter p (n ∷ [])
  kept_suc =
      ap (λ k. filter p (range_with_len 0 k)) (add-one n)
      ∙ ap (filter p) (counting_suc 0 n ∙ ap (λ k. range_with_len 0 n ++ k ∷ []) (zero-add n))
      ∙ filter-append p (range_with_len 0 n) (n ∷ [])

  pub kept_no : p n ≡ false → filter p (range_with_len 0 (n + 1)) ≡ filter p (range_with_len 0 n)
  kept_no e = kept_suc ∙ rw e (append-nil (filter p (range_with_len 0 n)))

  pub kept_yes : p n ≡ true → filter p (range_with_len 0 (n + 1)) ≡ inserted ltb n (filter p (range_with_len 0 n))
  kept_yes e =
      kept_suc
      ∙ rw e (sym (inserted_last ltb n (filter p (range_with_len 0 n)) (λ y h. lt-ltb y n (omega (arith, (from_counting 0 n y (from_kept p (range_with_len 0 n) y h).0).1)))))

-- ---- the list of a kind is closed
module _ {name : List ℕ} {ds : List Cell} {ms : List Matrix} {os : ℕ → Bool} (R : Rules name ds ms os) where
  pub uses_0 : (k : Kind) → uses k os 0 ≡ true
  uses_0 Fixed = refl
  uses_0 OneSided = R.one_sided_0
  uses_0 Free = refl

  still : product identity identity ≡ identity
  unfolding product row_times identity
  still = refl

  after_0 : number_after ms 0 0 ≡ 0
  after_0 =
      let e : product (motion ms 0) (motion ms 0) ≡ motion ms 0 = ap (λ m. product m m) R.motion_0 ∙ still ∙ sym R.motion_0 in
      rw (lt-ltb 0 (length ms) R.some_motions, e) (number_at ms 0 identity R.motions_differ R.some_motions)

  uses_after : (k : Kind) (g h : ℕ) → g < length ms → h < length ms → uses k os g ≡ true → uses k os h ≡ true → uses k os (number_after ms g h) ≡ true
  uses_after Fixed g h l r p q =
      let e : number_after ms g h ≡ 0 = ap (λ n. number_after ms n h) (eqb-true g 0 p) ∙ ap (number_after ms 0) (eqb-true h 0 q) ∙ after_0 in
      eq-eqb (number_after ms g h) 0 e
  uses_after OneSided g h l r p q = R.one_sided_after g h l r p q
  uses_after Free g h l r p q = refl

  pub kind_closed : (k : Kind) → Closed ms (kind_motions ms os k)
  kind_closed k =
      let test = uses k os in
      let all = range_with_len 0 (length ms) in
      let below : (g : ℕ) → In g (kind_motions ms os k) → g < length ms = λ g h. omega (arith, (from_counting 0 (length ms) g (from_kept test all g h).0).1) in
      record {
        ascending = ascending_kept ltb test all (ascending_counting 0 (length ms));
        within = below;
        has_0 = in_kept test all 0 (in_counting 0 (length ms) 0 (omega arith) (omega (arith, R.some_motions))) (uses_0 k);
        after = λ g h p q.
            in_kept test all (number_after ms g h)
            (in_counting 0 (length ms) (number_after ms g h) (omega arith) (omega (arith, after_below R g h (below g p) (below h q))))
            (uses_after k g h (below g p) (below h q) (from_kept test all g p).1 (from_kept test all h q).1);
      }
