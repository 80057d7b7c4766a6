-- Where a class is, told by the pick list of the last entry behind.
use Rattle.std.proofs.Common.{◌≡◌, ℕ, ◌≤◌, Bool, true, false, cond, ltb, ◌⊎◌, ◌↔◌, List, [], ◌∷◌, ◌++◌, length, Some, None, sym, refl, ap, ◌∙◌, subst, inl, inr, arith}
use Rattle.std.proofs.lemmas.Bool.{cond-true, cond-false, both_ways, cases_Bool}
use Rattle.ordered.specs.Members.{In}
use Rattle.ordered.specs.Orders.{list_less}
use Rattle.ordered.proofs.Members.{in_cast, in_append_left}
use Rattle.lattice.specs.declared.cell.Cell.{Cell}
use Rattle.lattice.specs.Cells.{origin}
use Rattle.lattice.specs.Kinds.{set_motions}
use Rattle.lattice.specs.Lattices.{Rules}
use Rattle.lattice.specs.Matrices.{Matrix}
use Rattle.shapes.specs.Classes.{same_cells, least_member, ClassLaws}
use Rattle.shapes.specs.Connected.{Connected}
use Rattle.shapes.specs.Entries.{EntryValues}
use Rattle.shapes.specs.Floods.{connected}
use Rattle.shapes.specs.Members.{usable}
use Rattle.shapes.specs.Positions.{neighbours, NormalPosition}
use Rattle.shapes.specs.Representatives.{least_if_connected}
use Rattle.shapes.proofs.Classes.{cells_equality, classes_hold}
use Rattle.shapes.proofs.Floods.{some_pass_says, some_pass_from, connected_decides}
use Rattle.shapes.proofs.Members.{closed_usable}
use Rattle.walk.specs.CellsAround.{cells_around}
use Rattle.walk.specs.PlaceLists.{pick_numbers}
use Rattle.walk.specs.Places.{first_places}
use Rattle.walk.specs.Searches.{search_directions, search_size, left, behind}
use Rattle.walk.specs.Walks.{walk, pick_list}
use Rattle.walk.proofs.Complete.{some_says}
use Rattle.walk.proofs.Listings.{picks_listed}
use Rattle.walk.proofs.Searches.{whole_listed}
use Rattle.listing.specs.declared.lister.Lister.{Lister}
use Rattle.listing.specs.declared.whereabouts.Whereabouts.TheVariants.{Given, ToCome, Foreign}
use Rattle.listing.specs.Openings.{Opening}
use Rattle.listing.specs.Classes.{Belongs, exact, picks}
use Rattle.listing.specs.Listing.{Lists}
use Rattle.listing.specs.Made.{entries_of, listing}
use Rattle.listing.specs.Listers.{listed_by, stands_of, last_picks, OpenedBy}
use Rattle.listing.specs.Whereabouts.{belongs, is_among, whereabouts_of}
use Rattle.listing.proofs.Made.{listing_lists, least_belongs, belongs_picks}
use Rattle.listing.proofs.Places.{belongs_says, least_listed, up_to_last}
use Rattle.listing.proofs.Searching.{entries_append}
use Rattle.listing.proofs.Searched.{last_push}
use Rattle.listing.proofs.Shown.{size_some}

-- there is a value only if the test passed
some_if : {X : Type 0} (b : Bool) (y z : X) → Some y ≡ cond b (Some z) None → (b ≡ true) × (y ≡ z)
some_if true y z e = (refl, cc)
some_if false y z e = let n : ◌≡◌ {A = ℕ} 0 1 = cc in absurd (omega arith)

-- a list is empty or has a last item
last_item : {X : Type 0} (xs : List X) → (xs ≡ []) ⊎ ((ys : List X) × (y : X) × (xs ≡ ys ++ y ∷ []))
last_item [] = inl refl
last_item {X} (x ∷ xs) = inr (go (last_item xs))
  where
    go : (xs ≡ []) ⊎ ((ys : List X) × (y : X) × (xs ≡ ys ++ y ∷ [])) → (ys : List X) × (y : X) × (x ∷ xs ≡ ys ++ y ∷ [])
    go (inl e) = ([], x, ap (λ zs. x ∷ zs) e)
    go (inr h) = (x ∷ h.0, h.1, ap (λ zs. x ∷ zs) h.2)

less_than_some : (p : List ℕ) → 1 ≤ length p → list_less ltb [] p ≡ true
less_than_some [] h = absurd (omega arith)
less_than_some (q ∷ p) h = refl

module _ (o : Opening) (size : 1 ≤ o.size) (k : ClassLaws o.directions o.motions o.set) (b a : List EntryValues) (l : Lists o (b ++ a)) (s : List Cell) (v : Belongs o s) where
  -- its class is behind if its entry is
  among_entry : In (exact o (least_member o.motions o.set s)) b → is_among o b s ≡ true
  among_entry h =
      let m = least_member o.motions o.set s in
      some_pass_from (λ e. same_cells e.cells m) b (exact o m) h ((cells_equality m m).1 refl)

  entry_among : is_among o b s ≡ true → In (exact o (least_member o.motions o.set s)) b
  entry_among h =
      let m = least_member o.motions o.set s in
      let (d, i, e) = some_pass_says (λ x. same_cells x.cells m) b h in
      in_cast b ((l.sound d (in_append_left b a d i)).is_exact ∙ ap (exact o) ((cells_equality d.cells m).0 e)) i

  -- some places are picked
  some_picked : (t : List Cell) → Belongs o t → 1 ≤ length (picks o t)
  some_picked t w =
      let g = cells_around o.directions in
      omega (arith, (((picks_listed g o.size (first_places g) 0).lawful (picks o t)).0 (belongs_picks o t w).0).0)

  -- the entry of its class is behind exactly if its pick list is not after that of the last one behind
  module _ (c : List EntryValues) (d : EntryValues) (e : b ≡ c ++ d ∷ []) where
    last_is : last_picks o b ≡ picks o d.cells
    last_is = ap (last_picks o) e ∙ last_push o c d

    after_last : (t : Bool) → list_less ltb (last_picks o b) (picks o (least_member o.motions o.set s)) ≡ t → list_less ltb (picks o d.cells) (picks o (least_member o.motions o.set s)) ≡ t
    after_last t h = ap (λ p. list_less ltb p (picks o (least_member o.motions o.set s))) (sym last_is) ∙ h

    place : (list_less ltb (picks o d.cells) (picks o (least_member o.motions o.set s)) ≡ true → ⊥) ↔ In (exact o (least_member o.motions o.set s)) b
    place = up_to_last o k b a l c d (exact o (least_member o.motions o.set s)) e (least_listed o k b a l s v)

  to_come : list_less ltb (last_picks o b) (picks o (least_member o.motions o.set s)) ≡ true → is_among o b s ≡ false
  to_come h = go (last_item b) (cases_Bool (is_among o b s))
    where
      go : (b ≡ []) ⊎ ((c : List EntryValues) × (d : EntryValues) × (b ≡ c ++ d ∷ [])) → (is_among o b s ≡ true) ⊎ (is_among o b s ≡ false) → is_among o b s ≡ false
      go (inl e) t = ap (λ es. is_among o es s) e
      go (inr q) (inl t) = absurd ((place q.0 q.1 q.2).1 (entry_among t) (after_last q.0 q.1 q.2 true h))
      go (inr q) (inr t) = t

  given : list_less ltb (last_picks o b) (picks o (least_member o.motions o.set s)) ≡ false → is_among o b s ≡ true
  given h = go (last_item b)
    where
      go : (b ≡ []) ⊎ ((c : List EntryValues) × (d : EntryValues) × (b ≡ c ++ d ∷ [])) → is_among o b s ≡ true
      go (inl e) =
          let m = least_member o.motions o.set s in
          absurd (both_ways (list_less ltb [] (picks o m)) (ap (λ es. list_less ltb (last_picks o es) (picks o m)) (sym e) ∙ h) (less_than_some (picks o m) (some_picked m (least_belongs o k s v))))
      go (inr q) =
          let m = least_member o.motions o.set s in
          among_entry ((place q.0 q.1 q.2).0 (both_ways (list_less ltb (picks o q.1.cells) (picks o m)) (after_last q.0 q.1 q.2 false h)))

  by_order : (t : Bool) → list_less ltb (last_picks o b) (picks o (least_member o.motions o.set s)) ≡ t → cond (is_among o b s) Given ToCome ≡ cond t ToCome Given
  by_order true h = cond-false (is_among o b s) Given ToCome (to_come h)
  by_order false h = cond-true (is_among o b s) Given ToCome (given h)

-- a lister that was opened, on a lattice that keeps the rules
module _ {L : Type 0} (directions : L → List Cell) (motions : L → List Matrix) (s : Lister L) (o : Opening) (h : OpenedBy directions motions s o) where
  -- the laws of its classes
  opened_laws : (name : List ℕ) (os : ℕ → Bool) → Rules name (directions s.lattice) (motions s.lattice) os → ClassLaws (listed_by motions s).directions (listed_by motions s).motions (listed_by motions s).set
  opened_laws name os r =
      let ms = motions s.lattice in
      let gs = set_motions s.set in
      subst (λ ds. ClassLaws ds ms (usable ms gs)) (sym h.directions_are) (subst (λ hs. ClassLaws (directions s.lattice) ms hs) (sym (closed_usable ms gs h.closed)) (classes_hold name (directions s.lattice) ms os gs r h.closed))

  -- behind and ahead make the whole list
  whole_list : (stands_of motions s).behind ++ (stands_of motions s).lowest ≡ listing (listed_by motions s)
  unfolding listing
  whole_list = sym (entries_append (listed_by motions s) (behind s.search) (left s.search)) ∙ ap (entries_of (listed_by motions s)) (whole_listed s.search)

  module _ (name : List ℕ) (os : ℕ → Bool) (r : Rules name (directions s.lattice) (motions s.lattice) os) (x : List Cell) (at : NormalPosition x) (size : length x ≡ search_size s.search) (joined : connected (directions s.lattice) x ≡ true) where
    -- it belongs
    listed_belongs : Belongs (listed_by motions s) x
    listed_belongs = record { position = at; connected = (connected_decides (search_directions s.search) x).0 (ap (λ ds. connected ds x) h.directions_are ∙ joined); size = size }

    -- so does its least member
    least_joined : Connected (neighbours (directions s.lattice)) origin (least_member (motions s.lattice) (usable (motions s.lattice) (set_motions s.set)) x)
    least_joined = subst (λ ds. Connected (neighbours ds) origin (least_member (motions s.lattice) (usable (motions s.lattice) (set_motions s.set)) x)) h.directions_are (least_belongs (listed_by motions s) (opened_laws name os r) x listed_belongs).connected

    -- where it is, by its least member's picks p
    told : (p : List ℕ) → walk (cells_around (directions s.lattice)) (least_member (motions s.lattice) (usable (motions s.lattice) (set_motions s.set)) x) ≡ p → (t : Bool) → list_less ltb (pick_numbers s.last) p ≡ t → cond t ToCome Given ≡ whereabouts_of o (stands_of motions s).behind x
    told p w t e =
        let n = listed_by motions s in
        let b = (stands_of motions s).behind in
        let a = (stands_of motions s).lowest in
        let k = opened_laws name os r in
        let l : Lists n (b ++ a) = subst (Lists n) (sym whole_list) (listing_lists n (size_some s.search) k) in
        let m = least_member n.motions n.set x in
        let order : list_less ltb (last_picks n b) (picks n m) ≡ t = ap (λ q. list_less ltb q (picks n m)) (sym h.last_right) ∙ ap (λ ds. list_less ltb (pick_numbers s.last) (walk (cells_around ds) m)) h.directions_are ∙ ap (list_less ltb (pick_numbers s.last)) w ∙ e in
        let here : whereabouts_of n b x ≡ cond (is_among n b x) Given ToCome = cond-true (belongs n x) (cond (is_among n b x) Given ToCome) Foreign ((belongs_says n x at).1 listed_belongs) in
        sym (ap (λ q. whereabouts_of q b x) (sym h.as_listed) ∙ here ∙ by_order n (size_some s.search) k b a l x listed_belongs t order)

  -- the same from the answers of the calls: y is the least member if x is connected, and its pick list is what is told of it
  module _ (name : List ℕ) (os : ℕ → Bool) (r : Rules name (directions s.lattice) (motions s.lattice) os) (x y : List Cell) (at : NormalPosition x) (size : length x ≡ search_size s.search) (is : Some y ≡ least_if_connected (directions s.lattice) (motions s.lattice) (set_motions s.set) x) where
    pub least_connected : Connected (neighbours (directions s.lattice)) origin y
    least_connected =
        let (joined, e) = some_if (connected (directions s.lattice) x) y _ is in
        subst (Connected (neighbours (directions s.lattice)) origin) (sym e) (least_joined name os r x at size joined)

    pub told_by_list : (p : List ℕ) → Some p ≡ pick_list (cells_around (directions s.lattice)) y → (t : Bool) → list_less ltb (pick_numbers s.last) p ≡ t → cond t ToCome Given ≡ whereabouts_of o (stands_of motions s).behind x
    told_by_list p w t order =
        let (joined, e) = some_if (connected (directions s.lattice) x) y _ is in
        let g = cells_around (directions s.lattice) in
        told name os r x at size joined p (ap (walk g) (sym e) ∙ (some_says g y p (sym w)).0) t order
