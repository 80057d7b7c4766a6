-- The list of all lawful picks: which are in it, its order, and the connected sets that it gives.
use Rattle.std.proofs.Common.{◌≡◌, ℕ, zero, suc, ◌+◌, ◌-◌, ◌<◌, ◌≤◌, true, ltb, ◌⊎◌, List, [], ◌∷◌, map, length, sym, refl, ap, ◌∙◌, subst, inl, inr, ⊎_elim, arith}
use Rattle.std.proofs.lemmas.Bool.{cases_order}
use Rattle.ordered.specs.Members.{In}
use Rattle.ordered.specs.Orders.{Ascending, list_less}
use Rattle.ordered.proofs.Members.{in_map, from_map, in_append_left, in_append_right, from_append}
use Rattle.ordered.proofs.Ascending.{ascending_map, ascending_no_repeats}
use Rattle.walk.specs.Neighbourhoods.{Neighbourhood}
use Rattle.walk.specs.Places.{after_pick, first_places}
use Rattle.walk.specs.Lawful.{LawfulFrom}
use Rattle.walk.specs.Walks.{walk}
use Rattle.walk.specs.Listings.{branches, picks_from, PicksListed, PicksEnumerated}
use Rattle.walk.proofs.Orders.{picks_order, less_head, less_tail, ascending_append}
use Rattle.walk.proofs.Complete.{walks}

-- ---- branches
-- p begins with one of the c places from q on, and goes on as f says
abbrev Branch : (ℕ → List (List ℕ)) → ℕ → ℕ → List ℕ → Type 0
Branch f c q p = (k : ℕ) × (q ≤ k) × (k < q + c) × (r : List ℕ) × In r (f k) × (p ≡ k ∷ r)

from_branches : (f : ℕ → List (List ℕ)) (c q : ℕ) (p : List ℕ) → In p (branches f c q) → Branch f c q p
from_branches f zero q p m = absurd m
from_branches f (suc c) q p m = go (from_branches f c (q + 1) p) (from_append (map (λ r. q ∷ r) (f q)) (branches f c (q + 1)) p m)
  where
    go : (In p (branches f c (q + 1)) → Branch f c (q + 1) p) → In p (map (λ r. q ∷ r) (f q)) ⊎ In p (branches f c (q + 1)) → Branch f (suc c) q p
    go ih (inl h) =
        let (r, k, e) = from_map (λ r. q ∷ r) (f q) p h in
        (q, omega arith, omega arith, r, k, e)
    go ih (inr h) =
        let t = ih h in
        (t.0, omega (arith, t.1), omega (arith, t.2), t.3, t.4, t.5)

in_branches : (f : ℕ → List (List ℕ)) (c q k : ℕ) (r : List ℕ) → q ≤ k → k < q + c → In r (f k) → In (k ∷ r) (branches f c q)
in_branches f zero q k r a b m = absurd (omega arith)
in_branches f (suc c) q k r a b m = go (in_branches f c (q + 1) k r) (cases_order k q)
  where
    go : (q + 1 ≤ k → k < q + 1 + c → In r (f k) → In (k ∷ r) (branches f c (q + 1))) → (k ≡ q) ⊎ ((k < q) ⊎ (q < k)) → In (k ∷ r) (branches f (suc c) q)
    go ih (inl e) =
        in_append_left (map (λ s. q ∷ s) (f q)) (branches f c (q + 1)) (k ∷ r)
        (subst (λ z. In (z ∷ r) (map (λ s. q ∷ s) (f q))) (sym e) (in_map (λ s. q ∷ s) (f q) r (subst (λ z. In r (f z)) e m)))
    go ih (inr (inl h)) = absurd (omega arith)
    go ih (inr (inr h)) = in_append_right (map (λ s. q ∷ s) (f q)) (branches f c (q + 1)) (k ∷ r) (ih (omega arith) (omega arith) m)

ascending_branches : (f : ℕ → List (List ℕ)) → ((k : ℕ) → Ascending (list_less ltb) (f k)) → (c q : ℕ) → Ascending (list_less ltb) (branches f c q)
ascending_branches f h zero q = tt
ascending_branches f h (suc c) q =
    ascending_append (list_less ltb) (map (λ r. q ∷ r) (f q)) (branches f c (q + 1))
    (ascending_map (list_less ltb) (list_less ltb) (λ r. q ∷ r) (less_tail q) (f q) (h q))
    (ascending_branches f h c (q + 1))
    apart
  where
    apart : (x y : List ℕ) → In x (map (λ r. q ∷ r) (f q)) → In y (branches f c (q + 1)) → list_less ltb x y ≡ true
    apart x y m n =
        let (r, k, e) = from_map (λ r. q ∷ r) (f q) x m in
        let t = from_branches f c (q + 1) y n in
        let l : q < t.0 = omega (arith, t.1) in
        subst (λ z. list_less ltb z y ≡ true) (sym e) (subst (λ z. list_less ltb (q ∷ r) z ≡ true) (sym t.5) (less_head q t.0 r t.3 l))

-- ---- picks
module _ {X : Type 0} (g : Neighbourhood X) where
  pub listed_lawful : (n : ℕ) (P : List X) (i : ℕ) (p : List ℕ) → In p (picks_from g n P i) → LawfulFrom g n P i p
  listed_lawful zero P i p m = ⊎_elim (λ e. subst (LawfulFrom g 0 P i) (sym e) (refl, tt)) (λ k. absurd k) m
  listed_lawful (suc n) P i p m =
      let t = from_branches (λ q. picks_from g n (after_pick g P q) (q + 1)) (length P - i) i p m in
      let rest = listed_lawful n (after_pick g P t.0) (t.0 + 1) t.3 t.4 in
      subst (LawfulFrom g (suc n) P i) (sym t.5) (ap suc rest.0, (t.1, omega (arith, t.1, t.2), rest.1))

  pub lawful_listed : (n : ℕ) (P : List X) (i : ℕ) (p : List ℕ) → LawfulFrom g n P i p → In p (picks_from g n P i)
  lawful_listed zero P i [] l = inl refl
  lawful_listed zero P i (q ∷ p) l = absurd (omega arith)
  lawful_listed (suc n) P i [] l = absurd (omega arith)
  lawful_listed (suc n) P i (q ∷ p) l =
      in_branches (λ r. picks_from g n (after_pick g P r) (r + 1)) (length P - i) i q p l.1.0 (omega (arith, l.1.0, l.1.1)) (lawful_listed n (after_pick g P q) (q + 1) p (omega (arith, l.0), l.1.2))

  pub listed_ascending : (n : ℕ) (P : List X) (i : ℕ) → Ascending (list_less ltb) (picks_from g n P i)
  listed_ascending zero P i = (λ r m. absurd m, tt)
  listed_ascending (suc n) P i = ascending_branches (λ q. picks_from g n (after_pick g P q) (q + 1)) (λ q. listed_ascending n (after_pick g P q) (q + 1)) (length P - i) i

pub picks_listed : {X : Type 0} → PicksListed X
picks_listed g n P i = record {
  lawful = λ p. (listed_lawful g n P i p, lawful_listed g n P i p);
  ascends = listed_ascending g n P i;
  differ = ascending_no_repeats (list_less ltb) picks_order (picks_from g n P i) (listed_ascending g n P i);
}

pub picks_enumerated : {X : Type 0} → PicksEnumerated X
picks_enumerated g n h =
    let all = picks_listed g n (first_places g) 0 in
    record {
      sound = λ p m. (walks g).sound n p h ((all.lawful p).0 m);
      whole = λ S root conn e.
          let t = (walks g).complete S root conn in
          (walk g S, (all.lawful (walk g S)).1 (t.0.0 ∙ e, t.0.1), t.1);
      unique = λ p r m k a. (walks g).unique n n p r ((all.lawful p).0 m) ((all.lawful r).0 k) a;
      differ = all.differ;
    }
