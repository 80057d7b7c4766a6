-- A lister by the search that it holds.
use Rattle.std.proofs.Common.{◌≡◌, ℕ, Bool, true, false, cond, ◌&&◌, leb, List, [], ◌∷◌, ◌++◌, Ok, Err, Result, sym, refl, ap, ◌∙◌, subst, arith}
use Rattle.std.proofs.lemmas.List.Sums.{fold_push}
use Rattle.lattice.specs.declared.cell.Cell.{Cell}
use Rattle.lattice.specs.Kinds.{Closed, set_motions, numbered_motions}
use Rattle.lattice.specs.Matrices.{Matrix}
use Rattle.shapes.specs.Entries.{EntryValues}
use Rattle.shapes.specs.Members.{usable}
use Rattle.shapes.proofs.Members.{closed_usable}
use Rattle.walk.specs.CellsAround.{cells_around}
use Rattle.walk.specs.Listings.{all_picks}
use Rattle.walk.specs.PlaceLists.{pick_numbers}
use Rattle.walk.specs.Searches.{search_directions, left, behind, shown, begun, Fresh, Alike}
use Rattle.listing.specs.declared.lister.Lister.{Lister}
use Rattle.listing.specs.Openings.{Opening, opening, with_set, opening_for}
use Rattle.listing.specs.Classes.{exact, picks}
use Rattle.sources.specs.Sources.{standing, Gave}
use Rattle.listing.specs.Made.{shape_of, is_least, entries_of, listing}
use Rattle.listing.specs.Listers.{listed_by, stands_of, last_picks, Kept, OpenedBy}
use Rattle.listing.proofs.Searching.{Come}

pub last_push : (o : Opening) (es : List EntryValues) (e : EntryValues) → last_picks o (es ++ e ∷ []) ≡ picks o e.cells
last_push o es e = fold_push (λ _ d. picks o d.cells) [] es e

module _ {L : Type 0} (motions : L → List Matrix) where
  pub same_listed : (s t : Lister L) → t.lattice ≡ s.lattice → t.set ≡ s.set → Alike s.search t.search → listed_by motions t ≡ listed_by motions s
  same_listed s t e f a i = opening (a.same_directions i) (motions (e i)) (a.same_size i) (usable (motions (e i)) (set_motions (f i)))

  -- what is least for t is least for s
  pub test_moves : (s t : Lister L) → listed_by motions t ≡ listed_by motions s → (x : List Cell) (b : Bool) → x ≡ shape_of (search_directions t.search) (shown t.search) → is_least (listed_by motions t) x ≡ b → is_least (listed_by motions s) (shape_of (listed_by motions s).directions (shown t.search)) ≡ b
  test_moves s t e x b is h =
      subst (λ o. is_least o (shape_of o.directions (shown t.search)) ≡ b) e (ap (is_least (listed_by motions t)) (sym is) ∙ h)

  module _ (s t : Lister L) (e : t.lattice ≡ s.lattice) (f : t.set ≡ s.set) where
    -- the entry that comes is written
    pub lister_gave : Come (listed_by motions s) s.search t.search → (x : EntryValues) → x ≡ exact (listed_by motions t) (shape_of (search_directions t.search) (shown t.search)) → Gave (stands_of motions s) (stands_of motions t) x
    lister_gave c x is =
        let same = same_listed s t e f c.alike in
        let o = listed_by motions s in
        let here : exact o (shape_of o.directions (shown t.search)) ≡ x = sym (is ∙ ap (λ p. exact p (shape_of p.directions (shown t.search))) same) in
        record {
          first = c.first ∙ ap (λ y. y ∷ entries_of o (left t.search)) here ∙ ap (λ p. x ∷ entries_of p (left t.search)) (sym same);
          moved = ap (λ p. entries_of p (behind t.search)) same ∙ c.moved ∙ ap (λ y. entries_of o (behind s.search) ++ y ∷ []) here;
          same_conditions = refl;
        }

    pub come_kept : Come (listed_by motions s) s.search t.search → pick_numbers t.last ≡ shown t.search → picks (listed_by motions t) (shape_of (search_directions t.search) (shown t.search)) ≡ shown t.search → Kept motions s t
    come_kept c last back =
        let same = same_listed s t e f c.alike in
        let o = listed_by motions s in
        let x = exact o (shape_of o.directions (shown t.search)) in
        let now = ap (λ p. picks p (shape_of p.directions (shown t.search))) same in
        record {
          same_lattice = e;
          same_set = f;
          alike = c.alike;
          last_stays = λ _. last ∙ sym back ∙ now ∙ sym (last_push o (entries_of o (behind s.search)) x) ∙ ap (last_picks o) (sym c.moved) ∙ ap (λ p. last_picks p (entries_of p (behind t.search))) (sym same);
        }

  module _ (directions : L → List Cell) where
    module _ (s : Lister L) (n : ℕ) (gs : List ℕ) where
      module _ (w : Fresh (directions s.lattice) n s.search) (is : gs ≡ set_motions s.set) (k : Closed (motions s.lattice) (set_motions s.set)) (last : pick_numbers s.last ≡ shown s.search) where
        as_asked : listed_by motions s ≡ opening (directions s.lattice) (motions s.lattice) n gs
        as_asked =
            let set : usable (motions s.lattice) (set_motions s.set) ≡ gs = closed_usable (motions s.lattice) (set_motions s.set) k ∙ sym is in
            λ i. opening (w.directions_are i) (motions s.lattice) (w.size_is i) (set i)

        pub opened_fresh : OpenedBy directions motions s (opening (directions s.lattice) (motions s.lattice) n gs) × (stands_of motions s ≡ standing [] (listing (opening (directions s.lattice) (motions s.lattice) n gs)))
        unfolding listing
        opened_fresh =
            let o = opening (directions s.lattice) (motions s.lattice) n gs in
            let none : (stands_of motions s).behind ≡ [] = ap (entries_of (listed_by motions s)) w.none_behind in
            let all : (stands_of motions s).lowest ≡ listing o = ap (λ p. entries_of p (left s.search)) as_asked ∙ ap (entries_of o) w.all_left in (
              record { as_listed = as_asked; directions_are = w.directions_are; closed = k; last_right = last ∙ w.none_shown ∙ ap (last_picks (listed_by motions s)) (sym none) },
              λ i. standing (none i) (all i),
            )

-- an opening whose search and set are made is that of the lattice, the size and the kind
pub opening_made : (ds : List Cell) (ms : List Matrix) (os : ℕ → Bool) (n k : ℕ) (ps : List (List ℕ)) (gs : List ℕ) → Ok ps ≡ begun ds n → Ok gs ≡ numbered_motions ms os k → opening_for ds ms os n k ≡ Ok (opening ds ms n gs)
opening_made ds ms os n k ps gs e f = go (leb 1 n && leb n 16) refl
  where
    go : (b : Bool) → (leb 1 n && leb n 16) ≡ b → opening_for ds ms os n k ≡ Ok (opening ds ms n gs)
    go true h = ap (λ b. cond b (with_set ds ms n (numbered_motions ms os k)) (Err 1)) h ∙ ap (with_set ds ms n) (sym f)
    go false h = let wrong : ◌≡◌ {A = Result (List (List ℕ)) ℕ} (Ok ps) (Err 1) = e ∙ ap (λ b. cond b (Ok (all_picks (cells_around ds) n)) (Err 1)) h in let z : ◌≡◌ {A = ℕ} 0 1 = cc in absurd (omega arith)
