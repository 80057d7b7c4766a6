-- What a search lists, and what advancing does to it.
use Rattle.std.proofs.Common.{◌≡◌, ℕ, Bool, true, false, List, ◌∷◌, ◌++◌, take, sym, refl, ap, ◌∙◌, subst, ap₂, inl}
use Rattle.ordered.specs.Members.{In}
use Rattle.ordered.proofs.Members.{in_append_right}
use Rattle.lattice.specs.declared.cell.Cell.{Cell}
use Rattle.walk.specs.declared.search.Search.{Search}
use Rattle.walk.specs.declared.trail.Trail.{Trail}
use Rattle.walk.specs.CellsAround.{cells_around}
use Rattle.walk.specs.PlaceLists.{directions_in}
use Rattle.walk.specs.Places.{first_places}
use Rattle.walk.specs.Lawful.{Lawful}
use Rattle.walk.specs.Listings.{all_picks}
use Rattle.walk.specs.Ends.{Ends, before}
use Rattle.walk.specs.Trails.{ways, rest, whole_list, shown_picks, Sound, Sought}
use Rattle.walk.specs.Searches.{search_directions, search_size, left, behind, shown, Advanced}
use Rattle.walk.proofs.Ends.{ends_same, ends_next, before_end, before_next}
use Rattle.walk.proofs.Listings.{picks_listed}

-- what is behind and what is left make the whole list
pub whole_listed : (s : Search) → behind s ++ left s ≡ all_picks (cells_around (search_directions s)) (search_size s)
whole_listed s = before_end (whole_list (search_directions s) s.trail) (left s) s.end

-- what is first of those still to list is lawful
first_lawful : (ds : List Cell) (n : ℕ) (p : List ℕ) (ps : List (List ℕ)) → Ends (all_picks (cells_around ds) n) (p ∷ ps) → Lawful (cells_around ds) n p
first_lawful ds n p ps h =
    let all = all_picks (cells_around ds) n in
    ((picks_listed (cells_around ds) n (first_places (cells_around ds)) 0).lawful p).0 (subst (λ L. In p L) (before_end all (p ∷ ps) h) (in_append_right (before all (p ∷ ps)) (p ∷ ps) p (inl refl)))

module _ (t u : Trail) where
  -- the words of u are those of t
  module _ (e : u.directions ≡ t.directions) where
    own_ways : ways u ≡ ways t
    own_ways = ap directions_in e

    own_sound : Sound (ways t) u → Sound (ways u) u
    own_sound h = subst (λ ds. Sound ds u) (sym own_ways) h

    own_rest : rest (ways u) u ≡ rest (ways t) u
    own_rest = ap (λ ds. rest ds u) own_ways

    own_whole : u.size ≡ t.size → whole_list (ways u) u ≡ whole_list (ways t) t
    own_whole k = ap₂ (λ ds n. all_picks (cells_around ds) n) own_ways k

  pub sought_sound : (b : Bool) → Sought (ways t) t u b → Sound (ways u) u
  sought_sound true h = own_sound h.same_directions h.sound
  sought_sound false h = own_sound h.same_directions h.sound

  pub sought_end : (b : Bool) → Sought (ways t) t u b → Ends (whole_list (ways t) t) (rest (ways t) t) → Ends (whole_list (ways u) u) (rest (ways u) u)
  sought_end true h k =
      subst (λ all. Ends all (rest (ways u) u)) (sym (own_whole h.same_directions h.same_size))
      (ends_next (whole_list (ways t) t) (rest (ways t) t) (rest (ways u) u) (shown_picks u) (h.first_shown ∙ ap (λ L. shown_picks u ∷ L) (sym (own_rest h.same_directions))) k)
  sought_end false h k =
      subst (λ all. Ends all (rest (ways u) u)) (sym (own_whole h.same_directions h.same_size))
      (ends_same (whole_list (ways t) t) (rest (ways t) t) (rest (ways u) u) (own_rest h.same_directions ∙ h.none_after ∙ sym h.none_before) k)

pub advanced : (s v : Search) (b : Bool) → Sought (ways s.trail) s.trail v.trail b → Advanced s v b
advanced s v true h =
    let t = s.trail in
    let u = v.trail in
    let all = whole_list (ways t) t in
    let w = own_whole t u h.same_directions h.same_size in
    let e : left s ≡ shown v ∷ left v = h.first_shown ∙ ap (λ L. shown_picks u ∷ L) (sym (own_rest t u h.same_directions)) in
    record {
      alike = record { same_directions = own_ways t u h.same_directions; same_size = h.same_size };
      first_shown = e;
      one_more_behind = ap (λ L. before L (left v)) w ∙ before_next all (left s) (left v) (shown v) e s.end;
      lawful = first_lawful (ways u) u.size (shown v) (left v) (subst (λ L. Ends L (shown v ∷ left v)) (sym w) (ends_same all (left s) (shown v ∷ left v) (sym e) s.end));
    }
advanced s v false h =
    let t = s.trail in
    let u = v.trail in
    let w = own_whole t u h.same_directions h.same_size in
    let r = own_rest t u h.same_directions in
    record {
      alike = record { same_directions = own_ways t u h.same_directions; same_size = h.same_size };
      none_before = h.none_before;
      none_after = r ∙ h.none_after;
      same_behind = ap₂ (λ L M. before L M) w (r ∙ h.none_after ∙ sym h.none_before);
      none_shown = ap (λ n. take n u.picks) h.none_shown;
    }
