-- Going through all ways to make n picks from a place list P, depth first and in ascending order. Assumes nothing.
-- A state is the picks p made, fewer than n, and the next place i to try.
--     todo g n P p i           the lists still to come: those that go on from p with a place from i on, and then those that are greater within p
--     tries f c q              one try at each of the c places from q on, and what f says there
--     work g n P i             how many places are tried in going through picks_from g n P i
--     work_left g n P p i      how many places are still to be tried
--     measure g n P p i        what every step makes less
--     Machine g n P            the steps: what each does to the lists still to come, and to the measure
--     Machines X               so it is in every neighbourhood of cells X
use Rattle.std.specs.Prelude.{◌≡◌, ℕ, zero, suc, ◌+◌, ◌-◌, ◌<◌, ◌≤◌, List, [], ◌∷◌, ◌++◌, map, length}
use Rattle.ordered.specs.Members.{In}
use Rattle.walk.specs.Neighbourhoods.{Neighbourhood}
use Rattle.walk.specs.Places.{after_pick, places_from}
use Rattle.walk.specs.Lawful.{InTurn}
use Rattle.walk.specs.Listings.{picks_from}

abbrev pub todo : {X : Type 0} → Neighbourhood X → ℕ → List X → List ℕ → ℕ → List (List ℕ)
todo g n P [] i = picks_from g n P i
todo g zero P (q ∷ p) i = []
todo g (suc n) P (q ∷ p) i = map (λ r. q ∷ r) (todo g n (after_pick g P q) p i) ++ picks_from g (suc n) P (q + 1)

abbrev pub tries : (ℕ → ℕ) → ℕ → ℕ → ℕ
tries f zero q = 0
tries f (suc c) q = suc (f q) + tries f c (q + 1)

abbrev pub work : {X : Type 0} → Neighbourhood X → ℕ → List X → ℕ → ℕ
work g zero P i = 0
work g (suc n) P i = tries (λ q. work g n (after_pick g P q) (q + 1)) (length P - i) i

abbrev pub work_left : {X : Type 0} → Neighbourhood X → ℕ → List X → List ℕ → ℕ → ℕ
work_left g n P [] i = work g n P i
work_left g zero P (q ∷ p) i = 0
work_left g (suc n) P (q ∷ p) i = work_left g n (after_pick g P q) p i + work g (suc n) P (q + 1)

abbrev pub measure : {X : Type 0} → Neighbourhood X → ℕ → List X → List ℕ → ℕ → ℕ
measure g n P p i = work_left g n P p i + work_left g n P p i + length p

pub record Machine {X : Type 0} (g : Neighbourhood X) (n : ℕ) (P : List X) : Type 0 where
  -- it starts with no picks, and all lists still to come
  pub starts : (i : ℕ) → todo g n P [] i ≡ picks_from g n P i
  -- a place on the list as the last pick makes a whole list, the next one
  pub lists : (p : List ℕ) (i : ℕ) → length p + 1 ≡ n → i < length (places_from g P p) → todo g n P p i ≡ (p ++ i ∷ []) ∷ todo g n P p (i + 1)
  pub lists_less : (p : List ℕ) (i : ℕ) → length p + 1 ≡ n → i < length (places_from g P p) → measure g n P p (i + 1) < measure g n P p i
  -- before that, a place on the list is picked
  pub picks : (p : List ℕ) (i : ℕ) → length p + 1 < n → i < length (places_from g P p) → todo g n P p i ≡ todo g n P (p ++ i ∷ []) (i + 1)
  pub picks_less : (p : List ℕ) (i : ℕ) → length p + 1 < n → i < length (places_from g P p) → measure g n P (p ++ i ∷ []) (i + 1) < measure g n P p i
  -- where no place is left, the last pick is taken back
  pub takes_back : (p : List ℕ) (q i : ℕ) → length p + 1 < n → length (places_from g P (p ++ q ∷ [])) ≤ i → todo g n P (p ++ q ∷ []) i ≡ todo g n P p (q + 1)
  pub takes_back_less : (p : List ℕ) (q i : ℕ) → length p + 1 < n → length (places_from g P (p ++ q ∷ [])) ≤ i → measure g n P p (q + 1) < measure g n P (p ++ q ∷ []) i
  -- what is still to come is always an end of the whole list
  pub comes_last : (j : ℕ) (p : List ℕ) (i : ℕ) → length p < n → InTurn g P j p → j ≤ i → ((q : ℕ) → In q p → q < i) → (front : List (List ℕ)) × (picks_from g n P j ≡ front ++ todo g n P p i)
  -- it ends with no picks and no place left
  pub ends : (i : ℕ) → 0 < n → length P ≤ i → todo g n P [] i ≡ []

abbrev pub Machines : Type 0 → Type 0
Machines X = (g : Neighbourhood X) (n : ℕ) (P : List X) → Machine g n P
