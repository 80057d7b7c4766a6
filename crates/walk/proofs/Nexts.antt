-- The lowest picks are the first of the list, and each list's next picks are those behind it.
use Rattle.std.proofs.Common.{◌≡◌, ℕ, zero, suc, ◌+◌, ◌-◌, true, ltb, List, [], ◌∷◌, ◌++◌, map, length, Some, None, Option, sym, refl, ap, ◌∙◌, subst, ap₂, inl, inr, ⊎_elim, arith}
use Rattle.ordered.specs.Members.{In}
use Rattle.ordered.specs.Orders.{Ascending, list_less}
use Rattle.walk.specs.Neighbourhoods.{Neighbourhood}
use Rattle.walk.specs.Places.{after_pick}
use Rattle.walk.specs.Listings.{branches, picks_from}
use Rattle.walk.specs.Nexts.{or_else, in_front, first_way, lowest, next_from, Least, Nexts}
use Rattle.walk.proofs.Orders.{picks_order}
use Rattle.walk.proofs.Listings.{listed_lawful, lawful_listed, listed_ascending}

-- ---- the first of a list, and lists in which a function leads from each item to the next
abbrev first_of : List (List ℕ) → Option (List ℕ)
first_of [] = None
first_of (p ∷ ps) = Some p

-- the last of the first list leads to the first of the second
abbrev LeadsTo : (List ℕ → Option (List ℕ)) → List (List ℕ) → List (List ℕ) → Type 0
LeadsTo f [] B = Unit {0}
LeadsTo f (p ∷ ps) B = (f p ≡ first_of (ps ++ B)) × LeadsTo f ps B

abbrev Leads : (List ℕ → Option (List ℕ)) → List (List ℕ) → Type 0
Leads f [] = Unit {0}
Leads f (p ∷ ps) = (f p ≡ first_of ps) × Leads f ps

first_map : (q : ℕ) (L B : List (List ℕ)) → or_else (in_front q (first_of L)) (first_of B) ≡ first_of (map (λ r. q ∷ r) L ++ B)
first_map q [] B = refl
first_map q (p ∷ L) B = refl

leads_append : (f : List ℕ → Option (List ℕ)) (A B : List (List ℕ)) → LeadsTo f A B → Leads f B → Leads f (A ++ B)
leads_append f [] B h k = k
leads_append f (p ∷ A) B h k = (h.0, leads_append f A B h.1 k)

leads_map : (f h : List ℕ → Option (List ℕ)) (q : ℕ) (L B : List (List ℕ))
    → ((r : List ℕ) → In r L → f (q ∷ r) ≡ or_else (in_front q (h r)) (first_of B))
    → Leads h L
    → LeadsTo f (map (λ r. q ∷ r) L) B
leads_map f h q [] B e l = tt
leads_map f h q (p ∷ L) B e l = (
  e p (inl refl) ∙ ap (λ o. or_else (in_front q o) (first_of B)) l.0 ∙ first_map q L B,
  leads_map f h q L B (λ r m. e r (inr m)) l.1,
)

first_way_first : (f : ℕ → Option (List ℕ)) (F : ℕ → List (List ℕ)) → ((q : ℕ) → f q ≡ first_of (F q)) → (c q : ℕ) → first_way f c q ≡ first_of (branches F c q)
first_way_first f F h zero q = refl
first_way_first f F h (suc c) q = ap₂ (λ a b. or_else (in_front q a) b) (h q) (first_way_first f F h c (q + 1)) ∙ first_map q (F q) (branches F c (q + 1))

-- ---- in the list of all picks
module _ {X : Type 0} (g : Neighbourhood X) where
  lowest_first : (n : ℕ) (P : List X) (i : ℕ) → lowest g n P i ≡ first_of (picks_from g n P i)
  lowest_first zero P i = refl
  lowest_first (suc n) P i =
      first_way_first (λ q. lowest g n (after_pick g P q) (q + 1)) (λ q. picks_from g n (after_pick g P q) (q + 1)) (λ q. lowest_first n (after_pick g P q) (q + 1)) (length P - i) i

  leads_branches : (n : ℕ) (P : List X)
      → ((q : ℕ) → Leads (next_from g (after_pick g P q)) (picks_from g n (after_pick g P q) (q + 1)))
      → (c q : ℕ)
      → c ≡ length P - q
      → Leads (next_from g P) (branches (λ r. picks_from g n (after_pick g P r) (r + 1)) c q)
  leads_branches n P ih zero q e = tt
  leads_branches n P ih (suc c) q e =
      leads_append (next_from g P) (map (λ r. q ∷ r) (picks_from g n (after_pick g P q) (q + 1))) (branches (λ r. picks_from g n (after_pick g P r) (r + 1)) c (q + 1))
      (leads_map (next_from g P) (next_from g (after_pick g P q)) q (picks_from g n (after_pick g P q) (q + 1)) (branches (λ r. picks_from g n (after_pick g P r) (r + 1)) c (q + 1)) here (ih q))
      (leads_branches n P ih c (q + 1) (omega arith))
    where
      here : (r : List ℕ) → In r (picks_from g n (after_pick g P q) (q + 1))
          → next_from g P (q ∷ r) ≡ or_else (in_front q (next_from g (after_pick g P q) r)) (first_of (branches (λ k. picks_from g n (after_pick g P k) (k + 1)) c (q + 1)))
      here r m =
          ap (λ o. or_else (in_front q (next_from g (after_pick g P q) r)) o)
          (ap (λ k. lowest g (suc k) P (q + 1)) (listed_lawful g n (after_pick g P q) (q + 1) r m).0
          ∙ lowest_first (suc n) P (q + 1)
          ∙ ap (λ k. first_of (branches (λ s. picks_from g n (after_pick g P s) (s + 1)) k (q + 1))) (omega arith))

  next_leads : (n : ℕ) (P : List X) (i : ℕ) → Leads (next_from g P) (picks_from g n P i)
  next_leads zero P i = (refl, tt)
  next_leads (suc n) P i = leads_branches n P (λ q. next_leads n (after_pick g P q) (q + 1)) (length P - i) i refl

-- ---- in an ascending list the first is the least, and what an item leads to is the least after it
first_least : (L : List (List ℕ)) (r : List ℕ) → Ascending (list_less ltb) L → first_of L ≡ Some r → Least (λ s. In s L) r
first_least [] r a e = absurd (let z : ◌≡◌ {A = ℕ} 0 1 = cc in omega arith)
first_least (p ∷ L) r a e =
    let f : p ≡ r = cc in
    (inl (sym f), λ s m. ⊎_elim (λ k. inl (k ∙ f)) (λ k. inr (subst (λ z. list_less ltb z s ≡ true) f (a.0 s k))) m)

first_none : (L : List (List ℕ)) → first_of L ≡ None → (s : List ℕ) → In s L → ⊥
first_none [] e s m = m
first_none (p ∷ L) e s m = let z : ◌≡◌ {A = ℕ} 0 1 = cc in omega arith

-- what follows p in L are the items of L greater than p
module _ (f : List ℕ → Option (List ℕ)) where
  abbrev After : List (List ℕ) → List ℕ → Type 0
  After L p = (B : List (List ℕ)) × (f p ≡ first_of B) × Ascending (list_less ltb) B × ((s : List ℕ) → In s B → In s L × (list_less ltb p s ≡ true)) × ((s : List ℕ) → In s L → list_less ltb p s ≡ true → In s B)

  after : (L : List (List ℕ)) → Leads f L → Ascending (list_less ltb) L → (p : List ℕ) → In p L → After L p
  after [] l a p m = absurd m
  after (x ∷ L) l a p (inl e) =
      subst (After (x ∷ L)) (sym e)
      (L, l.0, a.1, λ s k. (inr k, a.0 s k), λ s k h. ⊎_elim (λ q. absurd (picks_order.irreflexive x (subst (λ z. list_less ltb x z ≡ true) q h))) (λ q. q) k)
  after (x ∷ L) l a p (inr m) =
      let (B, e, b, to, from) = after L l.1 a.1 p m in
      (B, e, b, λ s k. (inr (to s k).0, (to s k).1), λ s k h. ⊎_elim (λ q. absurd (picks_order.irreflexive x (picks_order.transitive x p x (a.0 p m) (subst (λ z. list_less ltb p z ≡ true) q h)))) (λ q. from s q h) k)

pub nexts : {X : Type 0} → Nexts X
nexts g n P i =
    let lawful = listed_lawful g n P i in
    let listed = lawful_listed g n P i in
    let follow = after (next_from g P) (picks_from g n P i) (next_leads g n P i) (listed_ascending g n P i) in
    record {
      least = λ r e.
          let t = first_least (picks_from g n P i) r (listed_ascending g n P i) (sym (lowest_first g n P i) ∙ e) in
          (lawful r t.0, λ s k. t.1 s (listed s k));
      none = λ e s k. first_none (picks_from g n P i) (sym (lowest_first g n P i) ∙ e) s (listed s k);
      next = λ p r l e.
          let (B, b, a, to, from) = follow p (listed p l) in
          let t = first_least B r a (sym b ∙ e) in
          ((lawful r (to r t.0).0, (to r t.0).1), λ s k. t.1 s (from s (listed s k.0) k.1));
      last = λ p l e s k h.
          let (B, b, a, to, from) = follow p (listed p l) in
          first_none B (sym b ∙ e) s (from s (listed s k) h);
    }
