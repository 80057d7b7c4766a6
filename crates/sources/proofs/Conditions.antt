-- The steps of measuring cells, and of looking numbers up.
use Rattle.std.proofs.Common.{◌≡◌, ℕ, ◌+◌, ◌<◌, ◌≤◌, Bool, true, false, cond, eqb, List, map, length, get_or, drop, ℤ, Decides, sym, refl, ap, ◌∙◌, ⊎_elim, arith}
use lib.Signed.{lt_z}
use Rattle.std.specs.Int.{int_max}
use Rattle.std.specs.List.{best_of}
use Rattle.std.proofs.lemmas.List.{at_drop_more, at_drop_all}
use Rattle.std.proofs.lemmas.Int.{ints}
use Rattle.std.proofs.lemmas.Bool.{eqb-true, eq-eqb, cases_Bool, both_ways}
use Rattle.ordered.specs.Members.{In}
use Rattle.ordered.proofs.Members.{in_cast}
use Rattle.lattice.specs.declared.cell.Cell.{Cell}
use Rattle.shapes.specs.Floods.{some_pass}
use Rattle.shapes.proofs.Floods.{some_pass_says, some_pass_from}

-- ---- the best so far, b, of what f tells of cells
module _ (beats : ℤ → ℤ → Bool) (f : Cell → ℤ) where
  -- the next cell takes its place if it beats it
  pub best_more : (s : List Cell) (i : ℕ) (d : Cell) (b x m : ℤ) → i < length s → x ≡ f (get_or s i d) → m ≡ cond (beats x b) x b → best_of beats m (map f (drop (i + 1) s)) ≡ best_of beats b (map f (drop i s))
  best_more s i d b x m l e h =
      ap (λ z. best_of beats z (map f (drop (i + 1) s))) (h ∙ ap (λ z. cond (beats z b) z b) e) ∙ sym (at_drop_more (λ r. best_of beats b (map f r)) s i d l)

  pub best_all : (s : List Cell) (i : ℕ) (b : ℤ) → length s ≤ i → best_of beats b (map f (drop i s)) ≡ b
  best_all s i b l = at_drop_all (λ r. best_of beats b (map f r)) s i l

-- the same, as the code keeps the greatest
pub greatest_more : (f : Cell → ℤ) (s : List Cell) (i : ℕ) (d : Cell) (b x m : ℤ) → i < length s → x ≡ f (get_or s i d) → m ≡ int_max b x → best_of (λ y z. lt_z z y) m (map f (drop (i + 1) s)) ≡ best_of (λ y z. lt_z z y) b (map f (drop i s))
greatest_more f s i d b x m l e h = best_more (λ y z. lt_z z y) f s i d b x m l e (h ∙ max_is b x)
  where
    max_is : (y z : ℤ) → int_max y z ≡ cond (lt_z y z) z y
    max_is y z = grind (arith, ints)

-- what decides membership is the test of it
pub decided : (g : ℕ) (hs : List ℕ) (r : Bool) → Decides r (In g hs) → r ≡ some_pass (eqb g) hs
decided g hs true d = sym (some_pass_from (eqb g) hs g (d.0 refl) (eq-eqb g g refl))
decided g hs false d = sym (⊎_elim (λ t. let (x, i, e) = some_pass_says (eqb g) hs t in absurd (both_ways false refl (d.1 (in_cast hs (sym (eqb-true g x e)) i)))) (λ t. t) (cases_Bool (some_pass (eqb g) hs)))
