-- What follows of a sound trail, and what keeps it sound.
use Rattle.std.proofs.Common.{◌≡◌, ℕ, ◌+◌, ◌-◌, ◌*◌, ◌<◌, ◌≤◌, ◌≢◌, List, [], ◌∷◌, ◌++◌, length, get_or, take, set, sym, refl, ap, ◌∙◌, subst, ap₂, ⊎_elim, arith, length-take, get_or-set_other, get_or-set_same}
use Rattle.std.proofs.lemmas.List.{take_more, take_more_set, take-set, take-set-le, take-take, take_all, take-append-le}
use Rattle.std.proofs.lemmas.Bool.{cases_order}
use Rattle.lattice.specs.declared.cell.Cell.{Cell}
use Rattle.lattice.specs.Cells.{origin}
use Rattle.walk.specs.declared.trail.Trail.{Trail}
use Rattle.walk.specs.Neighbourhoods.{Neighbourhood}
use Rattle.walk.specs.CellsAround.{cells_around}
use Rattle.walk.specs.PlaceLists.{place_cells}
use Rattle.walk.specs.Places.{spread, cell_at, after_pick, places_from, places_of, cells_from, cells_of, first_places}
use Rattle.walk.specs.Steps.{todo, measure, Machine}
use Rattle.walk.specs.Trails.{picks_made, shown_picks, shown_cells, rest, effort, Sound, Turned, Found, Through}
use Rattle.walk.proofs.Around.{cell_is, first_is, AllWithin, first_within, places_within, near_few}
use Rattle.walk.proofs.Bounds.{length_places}
use Rattle.walk.proofs.Lists.{begins_length}
use Rattle.walk.proofs.Places.{place_lists_lawful}
use Rattle.walk.proofs.Sound.{length_cells}
use Rattle.walk.proofs.Steps.{machines}

-- one more cell picked
cells_push : {X : Type 0} (g : Neighbourhood X) (P : List X) (p : List ℕ) (q : ℕ) → cells_from g P (p ++ q ∷ []) ≡ cells_from g P p ++ cell_at g (places_from g P p) q ∷ []
cells_push g P [] q = refl
cells_push {X} g P (r ∷ p) q = ap {B = List X} (λ xs. cell_at g P r ∷ xs) (cells_push g (after_pick g P r) p q)

module _ (ds : List Cell) (t : Trail) where
  pub made_length : length (take t.depth t.picks) ≡ t.depth
  made_length = omega (arith, length-take t.depth t.picks)

  machine : Machine (cells_around ds) t.size (first_places (cells_around ds))
  machine = machines (cells_around ds) t.size (first_places (cells_around ds))

  -- where nothing is shown, nothing is to say of it
  pub none_sound : (u : Trail) → u.shown ≡ 0 → shown_cells u ≡ cells_of (cells_around ds) (shown_picks u)
  none_sound u e = subst (λ n. take n u.cells ≡ cells_of (cells_around ds) (take n u.picks)) (sym e) refl

  module _ (s : Sound ds t) where
    pub places_length : length (place_cells t.places) ≡ length (places_of (cells_around ds) (take t.depth t.picks))
    places_length = ap length s.places_are

    -- the place list has room for one more spreading, and its cells are in reach
    pub places_short : length ds ≤ 26 → length (place_cells t.places) ≤ 1 + 26 * t.depth
    places_short few =
        let g = cells_around ds in
        omega (arith, places_length, length_places 26 g (λ x. omega (arith, near_few ds x)) (first_places g) (take t.depth t.picks), made_length)

    pub places_near : AllWithin 1 ds → AllWithin t.depth (place_cells t.places)
    places_near short =
        let g = cells_around ds in
        let p = take t.depth t.picks in
        let e : 0 + length p ≡ t.depth = omega (arith, made_length) in
        subst (AllWithin t.depth) (sym s.places_are)
        (subst (λ r. AllWithin r (places_of g p)) e (places_within ds short 0 (first_places g) p (subst (AllWithin 0) (sym (first_is ds)) first_within)))

    -- ---- a place is picked
    module _ (u : Trail)
        (here : t.next < length (place_cells t.places))
        (we : u.directions ≡ t.directions)
        (se : u.size ≡ t.size)
        (ne : u.next ≡ t.next + 1)
        (pe : u.picks ≡ set t.picks t.depth t.next)
        (ce : u.cells ≡ set t.cells t.depth (get_or (place_cells t.places) t.next origin)) where
      here_on : t.next < length (places_of (cells_around ds) (take t.depth t.picks))
      here_on = omega (arith, here, places_length)

      one_more : take (t.depth + 1) u.picks ≡ take t.depth t.picks ++ t.next ∷ []
      one_more = ap (take (t.depth + 1)) pe ∙ take_more_set t.picks t.depth t.next (omega arith)

      cells_more : take (t.depth + 1) u.cells ≡ cells_of (cells_around ds) (take (t.depth + 1) u.picks)
      cells_more =
          let g = cells_around ds in
          let p = take t.depth t.picks in
          let x = get_or (place_cells t.places) t.next origin in
          ap (take (t.depth + 1)) ce
          ∙ take_more_set t.cells t.depth x (omega arith)
          ∙ ap₂ (λ xs (y : Cell). xs ++ y ∷ []) s.cells_are (ap (λ P. get_or P t.next origin) s.places_are ∙ sym (cell_is ds (places_of g p) t.next))
          ∙ sym (cells_push g (first_places g) p t.next)
          ∙ ap (cells_of g) (sym one_more)

      before : (k : ℕ) → k ≤ t.depth → take k u.picks ≡ take k t.picks
      before k h = ap (take k) pe ∙ take-set-le k t.picks t.depth t.next h

      pick_below : (k : ℕ) → k < t.depth → get_or u.picks k 0 ≡ get_or t.picks k 0
      pick_below k l = let n : k ≢ t.depth = omega arith in ap (λ xs. get_or xs k 0) pe ∙ get_or-set_other t.picks t.depth k t.next 0 n

      pick_here : get_or u.picks t.depth 0 ≡ t.next
      pick_here = ap (λ xs. get_or xs t.depth 0) pe ∙ get_or-set_same t.picks t.depth t.next 0 (omega arith)

      low : (k : ℕ) → k < t.depth + 1 → get_or u.picks k 0 < 512
      low k l =
          ⊎_elim
          (λ e. omega (arith, ap (λ j. get_or u.picks j 0) e, pick_here, here, length-take t.places.len t.places.cells))
          (⊎_elim (λ b. omega (arith, pick_below k b, s.picks_low k b)) (λ b. absurd (omega arith)))
          (cases_order k t.depth)

      -- the lengths, with that before the pick
      lengths_more : u.lengths ≡ set t.lengths t.depth (length (place_cells t.places)) → (k : ℕ) → k < t.depth + 1 → get_or u.lengths k 0 ≡ length (places_of (cells_around ds) (take k u.picks))
      lengths_more le k l =
          let g = cells_around ds in
          let n = length (place_cells t.places) in
          ⊎_elim
          (λ e.
          ap (get_or u.lengths k) refl
          ∙ ap (λ j. get_or u.lengths j 0) e
          ∙ ap (λ xs. get_or xs t.depth 0) le
          ∙ get_or-set_same t.lengths t.depth n 0 (omega arith)
          ∙ places_length
          ∙ ap (λ r. length (places_of g r)) (sym (before t.depth (omega arith)))
          ∙ ap (λ j. length (places_of g (take j u.picks))) (sym e))
          (⊎_elim
          (λ b.
          let o : k ≢ t.depth = omega arith in
          ap (λ xs. get_or xs k 0) le
          ∙ get_or-set_other t.lengths t.depth k n 0 o
          ∙ s.lengths_are k b
          ∙ ap (λ r. length (places_of g r)) (sym (before k (omega arith))))
          (λ b. absurd (omega arith)))
          (cases_order k t.depth)

      pub turned_picks : t.depth + 1 < t.size
          → u.depth ≡ t.depth + 1
          → u.shown ≡ 0
          → u.lengths ≡ set t.lengths t.depth (length (place_cells t.places))
          → place_cells u.places ≡ spread (cells_around ds) (place_cells t.places) (get_or (place_cells t.places) t.next origin)
          → Turned ds t u
      turned_picks more de oe le places =
          let g = cells_around ds in
          let F = first_places (cells_around ds) in
          let p = take t.depth t.picks in
          let made_is : picks_made u ≡ take t.depth t.picks ++ t.next ∷ [] = ap (λ n. take n u.picks) de ∙ one_more in
          record {
            sound = record {
              places_are =
                  places
                  ∙ ap (λ P. spread g P (get_or P t.next origin)) s.places_are
                  ∙ ap (spread g (places_of g p)) (sym (cell_is ds (places_of g p) t.next))
                  ∙ sym ((place_lists_lawful g).one_more F p t.next)
                  ∙ ap (places_of g) (sym made_is);
              lengths_are = λ k l. lengths_more le k (omega arith);
              picks_low = λ k l. low k (omega arith);
              cells_are = ap (λ n. take n u.cells) de ∙ cells_more ∙ ap (λ n. cells_of g (take n u.picks)) (sym de);
              shown_are = none_sound u oe;
            };
            same_directions = we;
            same_size = se;
            same_rest =
                ap₂ (λ n r. todo g n F r u.next) se made_is
                ∙ ap (todo g t.size F (p ++ t.next ∷ [])) ne
                ∙ sym (machine.picks p t.next (omega (arith, made_length)) here_on);
            less =
                subst (λ e. e < effort ds t) (sym (ap₂ (λ n r. measure g n F r u.next) se made_is ∙ ap (measure g t.size F (p ++ t.next ∷ [])) ne))
                (machine.picks_less p t.next (omega (arith, made_length)) here_on);
            none_shown = oe;
          }

      -- ---- a whole list is found
      pub found : t.depth + 1 ≡ t.size
          → u.depth ≡ t.depth
          → u.shown ≡ t.size
          → u.lengths ≡ t.lengths
          → u.places ≡ t.places
          → Found ds t u
      found last de oe le places =
          let g = cells_around ds in
          let F = first_places (cells_around ds) in
          let p = take t.depth t.picks in
          let made_is : picks_made u ≡ take t.depth t.picks = ap (λ n. take n u.picks) de ∙ before t.depth (omega arith) in
          let shown_is : u.shown ≡ t.depth + 1 = oe ∙ sym last in
          record {
            sound = record {
              places_are = ap place_cells places ∙ s.places_are ∙ ap (places_of g) (sym made_is);
              lengths_are = λ k l. ap (λ xs. get_or xs k 0) le ∙ s.lengths_are k (omega arith) ∙ ap (λ r. length (places_of g r)) (sym (before k (omega arith)));
              picks_low = λ k l. low k (omega arith);
              cells_are =
                  ap₂ take de ce
                  ∙ take-set t.cells t.depth (get_or (place_cells t.places) t.next origin)
                  ∙ s.cells_are
                  ∙ ap (cells_of g) (sym made_is);
              shown_are = subst (λ n. take n u.cells ≡ cells_of g (take n u.picks)) (sym shown_is) cells_more;
            };
            same_directions = we;
            same_size = se;
            first_shown =
                machine.lists p t.next (omega (arith, made_length)) here_on
                ∙ ap₂ {C = List (List ℕ)} (λ r rs. r ∷ rs)
                (sym (ap (λ n. take n u.picks) shown_is ∙ one_more))
                (sym (ap₂ (λ n r. todo g n F r u.next) se made_is ∙ ap (todo g t.size F p) ne));
          }

    -- ---- the last pick is taken back
    module _ (some : 0 < t.depth) where
      last_made : take t.depth t.picks ≡ take (t.depth - 1) t.picks ++ get_or t.picks (t.depth - 1) 0 ∷ []
      last_made = let e : t.depth ≡ t.depth - 1 + 1 = omega arith in ap (λ n. take n t.picks) e ∙ take_more t.picks (t.depth - 1) 0 (omega arith)

      pub length_low : get_or t.lengths (t.depth - 1) 0 ≤ length (place_cells t.places)
      length_low =
          let g = cells_around ds in
          let p = take (t.depth - 1) t.picks in
          let r = get_or t.picks (t.depth - 1) 0 ∷ [] in
          omega (arith, s.lengths_are (t.depth - 1) (omega arith), places_length, ap (λ z. length (places_of g z)) last_made, begins_length (places_of g p) (places_of g (p ++ r)) ((place_lists_lawful g).grows (first_places g) p r))

      pub turned_back : (u : Trail)
          → length (place_cells t.places) ≤ t.next
          → u.directions ≡ t.directions
          → u.size ≡ t.size
          → u.depth ≡ t.depth - 1
          → u.next ≡ get_or t.picks (t.depth - 1) 0 + 1
          → u.picks ≡ t.picks
          → u.cells ≡ t.cells
          → u.lengths ≡ t.lengths
          → u.shown ≡ 0
          → place_cells u.places ≡ take (get_or t.lengths (t.depth - 1) 0) (place_cells t.places)
          → Turned ds t u
      turned_back u none we se de ne pe ce le oe places =
          let g = cells_around ds in
          let F = first_places (cells_around ds) in
          let p = take (t.depth - 1) t.picks in
          let q = get_or t.picks (t.depth - 1) 0 in
          let d : t.depth - 1 < t.depth = omega arith in
          let pl : length p ≡ t.depth - 1 = omega (arith, length-take (t.depth - 1) t.picks) in
          let made_is : picks_made u ≡ p = ap₂ (λ n r. take n r) de pe in
          let off : length (places_from g F (p ++ q ∷ [])) ≤ t.next = omega (arith, places_length, ap (λ z. length (places_of g z)) last_made) in
          record {
            sound = record {
              places_are =
                  places
                  ∙ ap₂ (λ n P. take n P) (s.lengths_are (t.depth - 1) d) (s.places_are ∙ ap (places_of g) last_made)
                  ∙ (place_lists_lawful g).cut_back F p (q ∷ [])
                  ∙ ap (places_of g) (sym made_is);
              lengths_are = λ k l. ap (λ xs. get_or xs k 0) le ∙ s.lengths_are k (omega arith) ∙ ap (λ r. length (places_of g (take k r))) (sym pe);
              picks_low = λ k l. omega (arith, ap (λ xs. get_or xs k 0) pe, s.picks_low k (omega arith));
              cells_are =
                  ap₂ (λ n (r : List Cell). take n r) de ce
                  ∙ fewer_cells
                  ∙ ap (cells_of g) (sym made_is);
              shown_are = none_sound u oe;
            };
            same_directions = we;
            same_size = se;
            same_rest =
                ap₂ (λ n r. todo g n F r u.next) se made_is
                ∙ ap (todo g t.size F p) ne
                ∙ sym (machine.takes_back p q t.next (omega arith) off)
                ∙ ap (λ r. todo g t.size F r t.next) (sym last_made);
            less =
                subst (λ e. e < effort ds t) (sym (ap₂ (λ n r. measure g n F r u.next) se made_is ∙ ap (measure g t.size F p) ne))
                (subst (λ e. measure g t.size F p (q + 1) < e) (ap (λ r. measure g t.size F r t.next) (sym last_made))
                (machine.takes_back_less p q t.next (omega arith) off));
            none_shown = oe;
          }
        where
          fewer_cells : take (t.depth - 1) t.cells ≡ cells_of (cells_around ds) (take (t.depth - 1) t.picks)
          fewer_cells =
              let g = cells_around ds in
              let p = take (t.depth - 1) t.picks in
              let x = cell_at g (places_of g p) (get_or t.picks (t.depth - 1) 0) in
              let l : length (cells_of g p) ≡ t.depth - 1 = omega (arith, length_cells g (first_places g) p, length-take (t.depth - 1) t.picks) in
              sym (take-take (t.depth - 1) t.depth t.cells (omega arith))
              ∙ ap (take (t.depth - 1)) (s.cells_are ∙ ap (cells_of g) last_made ∙ cells_push g (first_places g) p (get_or t.picks (t.depth - 1) 0))
              ∙ take-append-le (t.depth - 1) (cells_of g p) (x ∷ []) (omega arith)
              ∙ take_all (t.depth - 1) (cells_of g p) (omega arith)

-- ---- the search goes on
-- from t to u nothing is listed
pub record Seeking (ds : List Cell) (t u : Trail) : Type 0 where
  pub sound : Sound ds u
  pub same_directions : u.directions ≡ t.directions
  pub same_size : u.size ≡ t.size
  pub same_rest : rest ds u ≡ rest ds t
  pub none_shown : u.shown ≡ 0

module _ (ds : List Cell) (t u : Trail) (k : Seeking ds t u) where
  -- no picks and no place left
  pub seeking_ends : u.depth ≡ 0 → length (place_cells u.places) ≤ u.next → Through ds t u
  seeking_ends z none =
      let g = cells_around ds in
      let F = first_places (cells_around ds) in
      let m : picks_made u ≡ [] = ap (λ n. take n u.picks) z in
      let l : length F ≤ u.next = omega (arith, ap length (k.sound.places_are ∙ ap (places_of g) m)) in
      let e : rest ds u ≡ [] = ap (λ p. todo g u.size F p u.next) m ∙ (machines g u.size F).ends u.next (omega arith) l in
      record {
        sound = k.sound;
        same_directions = k.same_directions;
        same_size = k.same_size;
        none_before = sym k.same_rest ∙ e;
        none_after = e;
        none_shown = k.none_shown;
      }
