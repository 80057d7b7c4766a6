-- The next pick list after a lawful one. Assumes nothing.
--     or_else o u            o if it is a list, and u otherwise
--     in_front q o           o with q in front, if it is a list
--     first_way f c q        of the c places from q on, the first from which f goes on, and how it goes on
--     lowest g n P i         the least way to make n more picks from the place list P, of places from i on; none if there is no way,
--                            since the last place may be picked and put no cell on the list
--     next_from g P p        the next picks after p, from the place list P on: the picks behind the first are raised if they can be;
--                            if not, the first is, and the lowest follow
--     Least A r              r is the least list of which A holds
--     Next g n P i           lowest gives the least lawful picks, and next_from the least lawful ones after given ones
--     Nexts X                so it is in every neighbourhood of cells X
use Rattle.std.specs.Prelude.{◌≡◌, ℕ, zero, suc, ◌+◌, ◌-◌, true, ◌⊎◌, List, [], ◌∷◌, length, Some, None, Option, ◌≢◌, nat_lt}
use Rattle.ordered.specs.Orders.{list_less}
use Rattle.walk.specs.Neighbourhoods.{Neighbourhood}
use Rattle.walk.specs.Places.{after_pick}
use Rattle.walk.specs.Lawful.{LawfulFrom}

abbrev pub or_else : Option (List ℕ) → Option (List ℕ) → Option (List ℕ)
or_else None o = o
or_else (Some p) o = Some p

abbrev pub in_front : ℕ → Option (List ℕ) → Option (List ℕ)
in_front q None = None
in_front q (Some r) = Some (q ∷ r)

abbrev pub first_way : (ℕ → Option (List ℕ)) → ℕ → ℕ → Option (List ℕ)
first_way f zero q = None
first_way f (suc c) q = or_else (in_front q (f q)) (first_way f c (q + 1))

abbrev pub lowest : {X : Type 0} → Neighbourhood X → ℕ → List X → ℕ → Option (List ℕ)
lowest g zero P i = Some []
lowest g (suc n) P i = first_way (λ q. lowest g n (after_pick g P q) (q + 1)) (length P - i) i

abbrev pub next_from : {X : Type 0} → Neighbourhood X → List X → List ℕ → Option (List ℕ)
next_from g P [] = None
next_from g P (q ∷ p) = or_else (in_front q (next_from g (after_pick g P q) p)) (lowest g (suc (length p)) P (q + 1))

abbrev pub Least : (List ℕ → Type 0) → List ℕ → Type 0
Least A r = A r × ((s : List ℕ) → A s → (s ≡ r) ⊎ (list_less nat_lt r s ≡ true))

pub record Next {X : Type 0} (g : Neighbourhood X) (n : ℕ) (P : List X) (i : ℕ) : Type 0 where
  -- the lowest picks are the least lawful ones, and if there are none there are no lawful ones
  pub least : (r : List ℕ) → lowest g n P i ≡ Some r → Least (LawfulFrom g n P i) r
  pub none : lowest g n P i ≡ None → (s : List ℕ) → LawfulFrom g n P i s → ⊥
  -- the next picks are the least lawful ones after p, and if there are none there are no lawful ones after p
  pub next : (p r : List ℕ) → LawfulFrom g n P i p → next_from g P p ≡ Some r → Least (λ s. LawfulFrom g n P i s × (list_less nat_lt p s ≡ true)) r
  pub last : (p : List ℕ) → LawfulFrom g n P i p → next_from g P p ≡ None → (s : List ℕ) → LawfulFrom g n P i s → list_less nat_lt p s ≢ true

abbrev pub Nexts : Type 0 → Type 0
Nexts X = (g : Neighbourhood X) (n : ℕ) (P : List X) (i : ℕ) → Next g n P i
