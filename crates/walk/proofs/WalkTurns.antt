-- The walk in a loop: the picks made so far, and those that the rest of the walk makes, are its picks.
use Rattle.std.proofs.Common.{◌≡◌, ℕ, suc, ◌+◌, ◌-◌, ◌*◌, ◌<◌, ◌≤◌, Bool, true, false, cond, eqb, ◌⊎◌, ◌↔◌, List, [], ◌∷◌, ◌++◌, length, get_or, is_some, Some, None, Option, sym, refl, ap, ◌∙◌, subst, ap₂, inl, inr, append_assoc, arith}
use Rattle.std.specs.Bool.{then_some}
use Rattle.std.proofs.lemmas.List.{append-nil, length-append}
use Rattle.std.proofs.lemmas.Bool.{false≢true}
use Rattle.lattice.specs.declared.cell.Cell.{Cell}
use Rattle.lattice.specs.Cells.{origin}
use Rattle.shapes.specs.Connected.{Connected}
use Rattle.shapes.specs.Positions.{neighbours, NormalPosition}
use Rattle.walk.specs.declared.pick_list.PickList.{PickList}
use Rattle.walk.specs.PlaceLists.{pick_numbers, picked}
use Rattle.walk.specs.Neighbourhoods.{on}
use Rattle.walk.specs.Places.{cell_at, spread}
use Rattle.walk.specs.Walks.{walk, walk_from, pick_list}
use Rattle.walk.specs.CellsAround.{cells_around}
use Rattle.walk.proofs.Around.{cell_is, first_is, AllWithin, first_within, place_within, spread_within, near_few}
use Rattle.walk.proofs.Bounds.{length_put_all}
use Rattle.walk.proofs.Lists.{on_sound, in_on}
use Rattle.walk.proofs.Complete.{walks}
use Rattle.walk.proofs.Rooted.{rooted}
use Rattle.walk.proofs.Turns.{walk_picks, walk_passes, walk_ends}

module _ (ds S : List Cell) where
  -- the picks p are made, with the place list P, and the next place is i
  abbrev Walking : List Cell → List ℕ → ℕ → Type 0
  Walking P p i = p ++ walk_from (cells_around ds) S (length S - length p) P i ≡ walk (cells_around ds) S

  walking_first : (P : List Cell) → P ≡ origin ∷ [] → Walking P [] 0
  walking_first P e = let z : length S - 0 ≡ length S = omega arith in ap₂ (λ k Q. walk_from (cells_around ds) S k Q 0) z (e ∙ sym (first_is ds))

  walking_picks : (P : List Cell) (p : List ℕ) (i : ℕ)
      → i < length P
      → length p < length S
      → on (cells_around ds) S (get_or P i origin) ≡ true
      → Walking P p i
      → Walking (spread (cells_around ds) P (get_or P i origin)) (p ++ i ∷ []) (i + 1)
  walking_picks P p i h l m w =
      let g = cells_around ds in
      let k = length S - length (p ++ i ∷ []) in
      let e : length S - length p ≡ suc k = omega (arith, length-append p (i ∷ [])) in
      let x = cell_is ds P i in
      let rest = walk_from g S k (spread g P (get_or P i origin)) (i + 1) in
      let step : walk_from g S (length S - length p) P i ≡ i ∷ rest =
      ap (λ j. walk_from g S j P i) e
      ∙ walk_picks g S k P i h (on_sound g S (cell_at g P i) (ap (on g S) x ∙ m))
      ∙ ap (λ y. i ∷ walk_from g S k (spread g P y) (i + 1)) x in
      append_assoc p (i ∷ []) rest ∙ ap (λ z. p ++ z) (sym step) ∙ w

  walking_passes : (P : List Cell) (p : List ℕ) (i : ℕ) → i < length P → on (cells_around ds) S (get_or P i origin) ≡ false → Walking P p i → Walking P p (i + 1)
  walking_passes P p i h m w =
      let g = cells_around ds in
      ap (λ z. p ++ z) (sym (walk_passes g S (length S - length p) P i h (λ j. false≢true (sym m ∙ ap (on g S) (sym (cell_is ds P i)) ∙ in_on g S (cell_at g P i) j)))) ∙ w

  walking_ends : (P : List Cell) (p : List ℕ) (i : ℕ) → (length S ≤ length p) ⊎ (length P ≤ i) → Walking P p i → p ≡ walk (cells_around ds) S
  walking_ends P p i o w = sym (append-nil p) ∙ ap (λ z. p ++ z) (sym (over o)) ∙ w
    where
      over : (length S ≤ length p) ⊎ (length P ≤ i) → walk_from (cells_around ds) S (length S - length p) P i ≡ []
      over (inl h) = let e : length S - length p ≡ 0 = omega arith in ap (λ k. walk_from (cells_around ds) S k P i) e
      over (inr h) = walk_ends (cells_around ds) S (length S - length p) P i h

  -- so far, and within bounds
  pub record Midway (P : List Cell) (p : List ℕ) (i : ℕ) : Type 0 where
    pub few : length p ≤ length S
    pub short : length P ≤ 1 + 26 * length p
    pub reach : AllWithin (length p) P
    pub goes : Walking P p i

  pub midway_first : (P : List Cell) (p : List ℕ) → p ≡ [] → P ≡ origin ∷ [] → Midway P p 0
  midway_first P p h e = subst (λ ps. Midway P ps 0) (sym h) (record {
    few = omega arith;
    short = omega (arith, ap length e);
    reach = subst (AllWithin 0) (sym e) first_within;
    goes = walking_first P e;
  })

  module _ (P : List Cell) (p : List ℕ) (i : ℕ) (now : Midway P p i) where
    pub midway_picks : (Q : List Cell) (more : List ℕ)
        → length ds ≤ 26
        → AllWithin 1 ds
        → i < length P
        → length p < length S
        → on (cells_around ds) S (get_or P i origin) ≡ true
        → Q ≡ spread (cells_around ds) P (get_or P i origin)
        → more ≡ p ++ i ∷ []
        → Midway Q more (i + 1)
    midway_picks Q more few short h l t qe pe =
        let g = cells_around ds in
        let x = get_or P i origin in
        let one : length (p ++ i ∷ []) ≡ length p + 1 = length-append p (i ∷ []) in
        subst (λ ps. Midway Q ps (i + 1)) (sym pe) (subst (λ R. Midway R (p ++ i ∷ []) (i + 1)) (sym qe) (record {
          few = omega (arith, one);
          short = omega (arith, one, now.short, length_put_all g P (g.near x), near_few ds x);
          reach = subst (λ n. AllWithin n (spread g P x)) (sym one) (spread_within ds short (length p) P x now.reach (place_within (length p) P i now.reach));
          goes = walking_picks P p i h l t now.goes;
        }))

    pub midway_passes : i < length P → on (cells_around ds) S (get_or P i origin) ≡ false → Midway P p (i + 1)
    midway_passes h t = record { few = now.few; short = now.short; reach = now.reach; goes = walking_passes P p i h t now.goes }

    pub midway_ends : (length S ≤ length p) ⊎ (length P ≤ i) → p ≡ walk (cells_around ds) S
    midway_ends o = walking_ends P p i o now.goes

  pub midway_same : (P Q : List Cell) (p more : List ℕ) (i : ℕ) → Q ≡ P → more ≡ p → Midway P p i → Midway Q more i
  midway_same P Q p more i qe pe h = subst (λ ps. Midway Q ps i) (sym pe) (subst (λ R. Midway R p i) (sym qe) h)

  -- ---- the pick list
  -- a walk that picks as many cells as there are gives it, and any other walk none
  pub told_list : (l : PickList) (b : Bool) → pick_numbers l ≡ walk (cells_around ds) S → b ≡ eqb (length (pick_numbers l)) (length S) → picked (then_some b l) ≡ pick_list (cells_around ds) S
  told_list l b e t = told b ∙ ap₂ (λ c p. cond c (Some p) None) (t ∙ ap (λ p. eqb (length p) (length S)) e) e
    where
      told : (c : Bool) → picked (then_some c l) ≡ cond c (Some (pick_numbers l)) None
      told true = refl
      told false = refl

  pub told_some : (r : Option PickList) → is_some (picked r) ≡ is_some r
  told_some (Some l) = refl
  told_some None = refl

  pub list_if_connected : (o : Option (List ℕ)) → NormalPosition S → o ≡ pick_list (cells_around ds) S → (is_some o ≡ true) ↔ Connected (neighbours ds) origin S
  unfolding cells_around
  list_if_connected (Some p) h e = (λ t. (walks (cells_around ds)).only_if S p (sym e), λ t. refl)
  list_if_connected None h e = (
    λ t. absurd (false≢true t),
    λ t. let k : None ≡ Some (walk (cells_around ds) S) = e ∙ (walks (cells_around ds)).some_if S (rooted ds S h) t in let z : ◌≡◌ {A = ℕ} 0 1 = cc in absurd (omega arith),
  )
