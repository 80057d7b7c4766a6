-- The least of the members: it is one, none is less, and all members have the same.
use Rattle.std.proofs.Common.{◌≡◌, ℕ, Bool, true, false, cond, List, [], ◌∷◌, map, sym, refl, ◌∙◌, subst, inl, inr}
use Rattle.std.specs.List.{best_of}
use Rattle.std.proofs.lemmas.Bool.{true≢false}
use Rattle.ordered.specs.Members.{In}
use Rattle.ordered.specs.Orders.{StrictTotal}
use Rattle.ordered.proofs.Members.{in_cast, in_map, from_map}
use Rattle.shapes.specs.Actions.{Acts, Member, least_of, LeastLaws}
use Rattle.shapes.proofs.Actions.{member_itself, member_good, member_back, member_through}

-- ---- the best of a list
module _ {X : Type 0} (less : X → X → Bool) (O : StrictTotal less) where
  -- "not less" is transitive
  pub none_less_trans : (x y z : X) → (less y x ≡ true → ⊥) → (less z y ≡ true → ⊥) → less z x ≡ true → ⊥
  none_less_trans x y z a b h = go (less x y) refl
    where
      go : (t : Bool) → less x y ≡ t → ⊥
      go true e = b (O.transitive z x y h e)
      go false e = b (subst (λ (w : X). less z w ≡ true) (O.trichotomous x y (λ e'. true≢false (sym e' ∙ e)) a) h)

  lower : (a x : X) → In (cond (less x a) x a) (a ∷ x ∷ []) × (less a (cond (less x a) x a) ≡ true → ⊥) × (less x (cond (less x a) x a) ≡ true → ⊥)
  lower a x = go (less x a) refl
    where
      go : (t : Bool) → less x a ≡ t → In (cond t x a) (a ∷ x ∷ []) × (less a (cond t x a) ≡ true → ⊥) × (less x (cond t x a) ≡ true → ⊥)
      go true e = (inr (inl refl), λ h. O.irreflexive a (O.transitive a x a h e), O.irreflexive x)
      go false e = (inl refl, O.irreflexive a, λ h. true≢false (sym h ∙ e))

  best_start : (a : X) (xs : List X) → less a (best_of less a xs) ≡ true → ⊥
  best_start a [] = O.irreflexive a
  best_start a (x ∷ xs) = let b = cond (less x a) x a in none_less_trans (best_of less b xs) b a (best_start b xs) (lower a x).1

  pub best_none_less : (a : X) (xs : List X) (y : X) → In y (a ∷ xs) → less y (best_of less a xs) ≡ true → ⊥
  best_none_less a xs y (inl e) = subst (λ (w : X). less w (best_of less a xs) ≡ true → ⊥) (sym e) (best_start a xs)
  best_none_less a xs y (inr h) = behind a xs y h
    where
      behind : (a : X) (xs : List X) (y : X) → In y xs → less y (best_of less a xs) ≡ true → ⊥
      behind a [] y h = absurd h
      behind a (x ∷ xs) y (inl e) = let b = cond (less x a) x a in subst (λ (w : X). less w (best_of less b xs) ≡ true → ⊥) (sym e) (none_less_trans (best_of less b xs) b x (best_start b xs) (lower a x).2)
      behind a (x ∷ xs) y (inr q) = behind (cond (less x a) x a) xs y q

  pub best_in : (a : X) (xs : List X) → In (best_of less a xs) (a ∷ xs)
  best_in a [] = inl refl
  best_in a (x ∷ xs) = go (best_in (cond (less x a) x a) xs) (lower a x).0
    where
      b : X
      b = best_of less (cond (less x a) x a) xs

      go : In b (cond (less x a) x a ∷ xs) → In (cond (less x a) x a) (a ∷ x ∷ []) → In b (a ∷ x ∷ xs)
      go (inr h) q = inr (inr h)
      go (inl e) (inl q) = inl (e ∙ q)
      go (inl e) (inr (inl q)) = inr (inl (e ∙ q))
      go (inl e) (inr (inr q)) = absurd q

  -- the best of a list is what it started with exactly if nothing in the list is better
  pub best_itself : (a : X) (xs : List X) → ((y : X) → In y xs → less y a ≡ true → ⊥) → best_of less a xs ≡ a
  best_itself a xs h = O.trichotomous (best_of less a xs) a (go (best_in a xs)) (best_none_less a xs a (inl refl))
    where
      go : In (best_of less a xs) (a ∷ xs) → less (best_of less a xs) a ≡ true → ⊥
      go (inl e) l = O.irreflexive a (subst (λ (w : X). less w a ≡ true) e l)
      go (inr q) l = h (best_of less a xs) q l

  pub best_beaten : (a : X) (xs : List X) (y : X) → In y xs → less y a ≡ true → best_of less a xs ≡ a → ⊥
  best_beaten a xs y q l e = best_none_less a xs y (inr q) (subst (λ (w : X). less y w ≡ true) (sym e) l)

-- ---- the least member
module _ {X : Type 0} (Good : X → Type 0) (gs : List ℕ) (after : ℕ → ℕ → ℕ) (act : ℕ → X → X) (A : Acts Good gs after act) (less : X → X → Bool) (O : StrictTotal less) where
  pub least_member : (x : X) → Good x → Member gs act x (least_of less gs act x)
  least_member x k = go (best_in less O x (map (λ g. act g x) gs))
    where
      go : In (least_of less gs act x) (x ∷ map (λ g. act g x) gs) → Member gs act x (least_of less gs act x)
      go (inl e) = (0, A.has_0, e ∙ sym (A.act_0 x k))
      go (inr h) = from_map (λ g. act g x) gs (least_of less gs act x) h

  pub least_none_less : (x y : X) → Good x → Member gs act x y → less y (least_of less gs act x) ≡ true → ⊥
  least_none_less x y k t = best_none_less less O x (map (λ g. act g x) gs) y (inr (in_cast (map (λ g. act g x) gs) (sym t.2) (in_map (λ g. act g x) gs t.0 t.1)))

  pub least_only : (x y : X) → Good x → Member gs act x y → ((z : X) → Member gs act x z → less z y ≡ true → ⊥) → y ≡ least_of less gs act x
  least_only x y k t h = O.trichotomous y (least_of less gs act x) (least_none_less x y k t) (h (least_of less gs act x) (least_member x k))

  pub least_same : (x y : X) → Good x → Member gs act x y → least_of less gs act y ≡ least_of less gs act x
  least_same x y k t =
      let j = member_good Good gs after act A x y k t in
      let through = member_through Good gs after act A in
      least_only x (least_of less gs act y) k (through x y (least_of less gs act y) k t (least_member y j))
      (λ z u. least_none_less y z j (through y x z j (member_back Good gs after act A x y k t) u))

  pub own_least : (x : X) → Good x → ((y : X) → Member gs act x y → less y x ≡ true → ⊥) → least_of less gs act x ≡ x
  own_least x k h = sym (least_only x x k (member_itself Good gs after act A x k) h)

  pub least_own : (x y : X) → Good x → least_of less gs act x ≡ x → Member gs act x y → less y x ≡ true → ⊥
  least_own x y k e t h = least_none_less x y k t (subst (λ (z : X). less y z ≡ true) (sym e) h)

  pub least_laws : LeastLaws Good less gs act
  least_laws = record { member = least_member; none_less = least_none_less; only = least_only; all_same = least_same; own_least = own_least; least_own = least_own }
