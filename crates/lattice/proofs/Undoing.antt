-- The search for the motion that undoes another.
use Rattle.std.proofs.Common.{◌≡◌, ◌≢◌, ℕ, ◌<◌, ◌≤◌, Bool, true, false, not, eqb, ltb, List, length, get_or, Option, Some, None, unwrap_or, MatchOption, sym, refl, ap, ◌∙◌, ⊎_elim, zero-add, arith}
use Rattle.std.specs.List.{range_with_len}
use Rattle.std.proofs.lemmas.List.FromFn.{length-range_with_len, get_or-range_with_len}
use Rattle.std.proofs.lemmas.List.Sums.{prefix_len_is}
use Rattle.std.proofs.lemmas.Bool.{eq-eqb, ne_eqb, not_from_true, not_from_false, le-ltb, and_right, cases_lt}
use Rattle.lattice.specs.declared.cell.Cell.{Cell}
use Rattle.lattice.specs.Matrices.{Matrix, image}
use Rattle.lattice.specs.Lattices.{motion, number_after, inverse_number, Rules}
use Rattle.lattice.proofs.Numbers.{in_turn}
use Rattle.lattice.proofs.Products.{image_identity}

module _ {name : List ℕ} {ds : List Cell} {ms : List Matrix} {os : ℕ → Bool} (R : Rules name ds ms os) (g : ℕ) where
  -- every number has one that undoes it
  undone : (h : ℕ) × (h < length ms) × (number_after ms h g ≡ 0)
  undone = ⊎_elim (R.undone g) (λ l. (0, R.some_motions, rw (le-ltb g (length ms) l, and_right (ltb 0 (length ms)) false refl) refl)) (cases_lt g (length ms))

  -- so the search for the lowest finds one
  pub lowest : (r : Option ℕ) → MatchOption r ((k : ℕ) → 0 ≤ k → k < length ms → number_after ms k g ≢ 0) (λ i. (0 ≤ i) × (i < length ms) × (number_after ms i g ≡ 0) × ((k : ℕ) → 0 ≤ k → k < i → number_after ms k g ≢ 0)) → (unwrap_or r 0 ≡ inverse_number ms g) × (unwrap_or r 0 < length ms) × (number_after ms (unwrap_or r 0) g ≡ 0)
  lowest None h = absurd (h undone.0 (omega arith) undone.1 undone.2)
  lowest (Some i) h =
      let test : ℕ → Bool = λ k. not (eqb (number_after ms k g) 0) in
      let all = range_with_len 0 (length ms) in
      let at : (k : ℕ) → k < length ms → get_or all k 0 ≡ k = λ k l. get_or-range_with_len 0 (length ms) k 0 l ∙ zero-add k in
      let before : (k : ℕ) → k < i → test (get_or all k 0) ≡ true = λ k l. rw (at k (omega (arith, h.1))) (not_from_false _ (ne_eqb _ 0 (h.3 k (omega arith) l))) in
      (sym (prefix_len_is test all i 0 (omega (arith, h.1, length-range_with_len 0 (length ms))) before (λ l. rw (at i h.1) (not_from_true _ (eq-eqb _ 0 h.2)))), h.1, h.2)

  -- what it finds takes back what g does
  pub undoes : (h : ℕ) → h < length ms → g < length ms → number_after ms h g ≡ 0 → (x : Cell) → image (motion ms h) (image (motion ms g) x) ≡ x
  undoes h k l e x = sym (in_turn R h g 0 (sym e) k l x) ∙ ap (λ m. image m x) R.motion_0 ∙ image_identity x
