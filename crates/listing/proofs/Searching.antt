-- What the search finds, and the entries that a lister makes of it.
use Rattle.std.proofs.Common.{◌≡◌, ℕ, true, false, List, [], ◌∷◌, ◌++◌, map, filter, sym, ap, ◌∙◌}
use Rattle.std.proofs.lemmas.List.Elements.{filter-append}
use Rattle.std.proofs.lemmas.List.{append-nil, map-append}
use Rattle.std.proofs.lemmas.Bool.{cond-true, cond-false}
use Rattle.walk.specs.declared.search.Search.{Search}
use Rattle.walk.specs.Searches.{left, behind, shown, Alike, NextShown}
use Rattle.listing.specs.Openings.{Opening}
use Rattle.listing.specs.Classes.{exact}
use Rattle.listing.specs.Made.{shape_of, is_least, entries_of}

pub both_alike : {s t u : Search} → Alike s t → Alike t u → Alike s u
both_alike a b = record { same_directions = b.same_directions ∙ a.same_directions; same_size = b.same_size ∙ a.same_size }

module _ (o : Opening) where
  pub entries_append : (ps qs : List (List ℕ)) → entries_of o (ps ++ qs) ≡ entries_of o ps ++ entries_of o qs
  entries_append ps qs =
      let f = shape_of o.directions in
      ap (λ ss. map (exact o) (filter (is_least o) ss)) (map-append f ps qs)
      ∙ ap (map (exact o)) (filter-append (is_least o) (map f ps) (map f qs))
      ∙ map-append (exact o) (filter (is_least o) (map f ps)) (filter (is_least o) (map f qs))

  pub entries_least : (p : List ℕ) (ps : List (List ℕ)) → is_least o (shape_of o.directions p) ≡ true → entries_of o (p ∷ ps) ≡ exact o (shape_of o.directions p) ∷ entries_of o ps
  entries_least p ps e =
      let f = shape_of o.directions in
      ap (map (exact o)) (cond-true (is_least o (f p)) (f p ∷ filter (is_least o) (map f ps)) (filter (is_least o) (map f ps)) e)

  pub entries_other : (p : List ℕ) (ps : List (List ℕ)) → is_least o (shape_of o.directions p) ≡ false → entries_of o (p ∷ ps) ≡ entries_of o ps
  entries_other p ps e =
      let f = shape_of o.directions in
      ap (map (exact o)) (cond-false (is_least o (f p)) (f p ∷ filter (is_least o) (map f ps)) (filter (is_least o) (map f ps)) e)

  -- from s to t only shapes were found that are not least
  pub record Skipped (s t : Search) : Type 0 where
    pub alike : Alike s t
    pub same_behind : entries_of o (behind t) ≡ entries_of o (behind s)
    pub same_left : entries_of o (left t) ≡ entries_of o (left s)

  -- the next one of s is the least shape that u shows
  pub record Come (s u : Search) : Type 0 where
    pub alike : Alike s u
    pub first : entries_of o (left s) ≡ exact o (shape_of o.directions (shown u)) ∷ entries_of o (left u)
    pub moved : entries_of o (behind u) ≡ entries_of o (behind s) ++ exact o (shape_of o.directions (shown u)) ∷ []

  module _ {s t u : Search} (k : Skipped s t) where
    module _ (n : NextShown t u) where
      pub one_skipped : is_least o (shape_of o.directions (shown u)) ≡ false → Skipped s u
      one_skipped e = record {
        alike = both_alike k.alike n.alike;
        same_behind = ap (entries_of o) n.one_more_behind ∙ entries_append (behind t) (shown u ∷ []) ∙ ap (λ es. entries_of o (behind t) ++ es) (entries_other (shown u) [] e) ∙ append-nil (entries_of o (behind t)) ∙ k.same_behind;
        same_left = sym (entries_other (shown u) (left u) e) ∙ ap (entries_of o) (sym n.first_shown) ∙ k.same_left;
      }

      pub one_come : is_least o (shape_of o.directions (shown u)) ≡ true → Come s u
      one_come e = record {
        alike = both_alike k.alike n.alike;
        first = sym k.same_left ∙ ap (entries_of o) n.first_shown ∙ entries_least (shown u) (left u) e;
        moved = ap (entries_of o) n.one_more_behind ∙ entries_append (behind t) (shown u ∷ []) ∙ ap (λ es. es ++ entries_of o (shown u ∷ [])) k.same_behind ∙ ap (λ es. entries_of o (behind s) ++ es) (entries_least (shown u) [] e);
      }
