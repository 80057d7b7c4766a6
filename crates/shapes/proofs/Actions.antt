-- A set of motions that acts: what undoes a motion, and that being a member of is an equivalence.
use Rattle.std.proofs.Common.{◌≡◌, ℕ, eqb, ◌⊎◌, List, ◌∷◌, map, sym, ap, ◌∙◌, subst, inl, inr, arith}
use lib.ListN.{length-map}
use Rattle.ordered.specs.Members.{In}
use Rattle.ordered.proofs.Members.{in_cast, from_map, no_repeats_map}
use Rattle.ordered.proofs.Counting.{number_equality, in_or_not, fits}
use Rattle.shapes.specs.Actions.{Acts, Member, Equivalence}

module _ {X : Type 0} (Good : X → Type 0) (gs : List ℕ) (after : ℕ → ℕ → ℕ) (act : ℕ → X → X) (A : Acts Good gs after act) where
  -- were 0 no "g after h", then 0 and these would be too many different ones of gs
  pub undone_right : (g : ℕ) → In g gs → (h : ℕ) × In h gs × (after g h ≡ 0)
  undone_right g p = go (in_or_not eqb number_equality 0 (map (after g) gs))
    where
      all : (n : ℕ) → In n (0 ∷ map (after g) gs) → In n gs
      all n (inl e) = in_cast gs (sym e) A.has_0
      all n (inr q) = let t = from_map (after g) gs n q in in_cast gs (sym t.2) (A.closed g t.0 p t.1)

      go : In 0 (map (after g) gs) ⊎ (In 0 (map (after g) gs) → ⊥) → (h : ℕ) × In h gs × (after g h ≡ 0)
      go (inl q) = let t = from_map (after g) gs 0 q in (t.0, t.1, sym t.2)
      go (inr n) = absurd (omega (arith, fits eqb number_equality (0 ∷ map (after g) gs) gs (n, no_repeats_map (after g) gs A.no_repeats (λ a b q r. A.cancel g a b p q r)) all, length-map gs (after g)))

  -- it undoes g on either side
  pub inverse : (g : ℕ) → In g gs → ℕ
  inverse g p = (undone_right g p).0

  pub inverse_in : (g : ℕ) (p : In g gs) → In (inverse g p) gs
  unfolding inverse
  inverse_in g p = (undone_right g p).1

  pub undo_right : (g : ℕ) (p : In g gs) (x : X) → Good x → act g (act (inverse g p) x) ≡ x
  unfolding inverse
  undo_right g p x k = let t = undone_right g p in sym (A.act_after g t.0 x p t.1 k) ∙ ap (λ (n : ℕ). act n x) t.2 ∙ A.act_0 x k

  pub undo_left : (g : ℕ) (p : In g gs) (x : X) → Good x → act (inverse g p) (act g x) ≡ x
  undo_left g p x k =
      let h = inverse g p in
      let q = inverse_in g p in
      let y = act (inverse h q) x in
      let e : act h y ≡ x = undo_right h q x k in
      let f : act g (act h y) ≡ y = undo_right g p y (A.good (inverse h q) x (inverse_in h q) k) in
      ap (λ (z : X). act h (act g z)) (sym e) ∙ ap (act h) f ∙ e

  -- ---- members
  pub member_itself : (x : X) → Good x → Member gs act x x
  member_itself x k = (0, A.has_0, sym (A.act_0 x k))

  pub member_good : (x y : X) → Good x → Member gs act x y → Good y
  member_good x y k t = subst Good (sym t.2) (A.good t.0 x t.1 k)

  pub member_back : (x y : X) → Good x → Member gs act x y → Member gs act y x
  member_back x y k t =
      let h = inverse t.0 t.1 in
      (h, inverse_in t.0 t.1, sym (ap (act h) t.2 ∙ undo_left t.0 t.1 x k))

  pub member_through : (x y z : X) → Good x → Member gs act x y → Member gs act y z → Member gs act x z
  member_through x y z k t s = (after s.0 t.0, A.closed s.0 t.0 s.1 t.1, s.2 ∙ ap (act s.0) t.2 ∙ sym (A.act_after s.0 t.0 x s.1 t.1 k))

  pub equivalence : Equivalence Good gs act
  equivalence = record { itself = member_itself; back = member_back; through = member_through }
