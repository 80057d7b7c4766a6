-- The walk makes the list of all classes: its pick lists pick the connected shapes of the size, in the order of their pick lists, and of these
-- the least members are kept.
use Rattle.std.proofs.Common.{◌≡◌, ℕ, ◌+◌, ◌≤◌, Bool, true, ltb, ◌⊎◌, ◌↔◌, List, [], ◌∷◌, map, length, None, filter, sym, refl, ◌∙◌, subst, inl, inr, arith}
use Rattle.std.specs.List.{AllByRecursion}
use Rattle.ordered.specs.Members.{In}
use Rattle.ordered.specs.Orders.{Ascending, list_less}
use Rattle.ordered.specs.Lookups.{sorted}
use Rattle.ordered.proofs.Members.{in_cast, in_map, from_map, in_kept, from_kept, all_from_in}
use Rattle.ordered.proofs.Ascending.{ascending_map, ascending_kept}
use Rattle.ordered.proofs.Sorted.{sorted_out, sorted_in, sorted_ascending, sorted_only, sorted_length}
use Rattle.lattice.specs.declared.cell.Cell.{Cell}
use Rattle.lattice.specs.Cells.{origin, cell_less, Within}
use Rattle.lattice.specs.Coordinates.{cell_order}
use Rattle.shapes.specs.Classes.{cells_less, least_member, ClassLaws}
use Rattle.shapes.specs.Connected.{Connected}
use Rattle.shapes.specs.Faults.{shape_fault}
use Rattle.shapes.specs.Positions.{neighbours, FromOrigin, NormalPosition}
use Rattle.shapes.proofs.Classes.{cells_equality}
use Rattle.shapes.proofs.Connected.{reached_carried}
use Rattle.shapes.proofs.Reach.{connected_within}
use Rattle.shapes.proofs.ShapeFacts.{no_fault}
use Rattle.walk.specs.CellsAround.{cells_around}
use Rattle.walk.specs.Lawful.{Lawful}
use Rattle.walk.specs.Listings.{all_picks}
use Rattle.walk.specs.Neighbourhoods.{Rooted, SameItems}
use Rattle.walk.specs.Places.{cells_of, first_places}
use Rattle.walk.specs.Walks.{walk}
use Rattle.walk.proofs.Complete.{walks}
use Rattle.walk.proofs.Listings.{picks_listed}
use Rattle.walk.proofs.Rooted.{rooted}
use Rattle.listing.specs.Openings.{Opening}
use Rattle.listing.specs.Classes.{Belongs, InClass, Least, exact, picks}
use Rattle.listing.specs.Listing.{RightEntry, by_picks, Lists}
use Rattle.listing.specs.Made.{shape_of, is_least, listing}
use Rattle.listing.proofs.OneList.{belongs_member}

-- ---- the shape that a pick list picks
-- an ascending list with the origin and greater cells starts with the origin
first_origin : (s : List Cell) → Ascending cell_less s → In origin s → ((x : Cell) → In x s → (x ≡ origin) ⊎ (cell_less origin x ≡ true)) → FromOrigin s
first_origin [] a h up = h
first_origin (x ∷ xs) a h up = go h (up x (inl refl))
  where
    go : In origin (x ∷ xs) → (x ≡ origin) ⊎ (cell_less origin x ≡ true) → x ≡ origin
    go i (inl e) = e
    go (inl e) (inr l) = sym e
    go (inr i) (inr l) = absurd (cell_order.irreflexive origin (cell_order.transitive origin x origin l (a.0 origin i)))

module _ (ds : List Cell) where
  shape_items : (p : List ℕ) → SameItems (shape_of ds p) (cells_of (cells_around ds) p)
  shape_items p x = let cs = cells_of (cells_around ds) p in (sorted_out cell_less cell_order cs x, sorted_in cell_less cell_order cs x)

  sorted_position : (s : List Cell) → Rooted (cells_around ds) s → NormalPosition (sorted cell_less s)
  unfolding cells_around
  sorted_position s r =
      let t = sorted cell_less s in
      let a = sorted_ascending cell_less cell_order s in
      record {
        ascending = a;
        from_origin = first_origin t a (sorted_in cell_less cell_order s origin r.has_start) (λ x h. r.others_above x (sorted_out cell_less cell_order s x h));
      }

  sorted_connected : (s : List Cell) → Connected (cells_around ds).near (cells_around ds).start s → Connected (neighbours ds) origin (sorted cell_less s)
  unfolding cells_around
  sorted_connected s con x h = reached_carried (neighbours ds) (λ y. y) s (sorted cell_less s) (sorted_in cell_less cell_order s) (λ y z n. n) (con x (sorted_out cell_less cell_order s x h))

  -- a lawful pick list picks a connected shape, with as many cells as picks
  pub lawful_shape : (n : ℕ) (p : List ℕ) → 1 ≤ n → Lawful (cells_around ds) n p → NormalPosition (shape_of ds p) × Connected (neighbours ds) origin (shape_of ds p) × (length (shape_of ds p) ≡ n)
  lawful_shape n p l h =
      let cs = cells_of (cells_around ds) p in
      let t = (walks (cells_around ds)).sound n p l h in
      (sorted_position cs t.0, sorted_connected cs t.1, sorted_length cell_less cell_order cs t.0.differ ∙ t.2)

  -- the walk of a connected shape is a lawful pick list
  walk_lawful : (s : List Cell) → NormalPosition s → Connected (neighbours ds) origin s → Lawful (cells_around ds) (length s) (walk (cells_around ds) s) × SameItems s (cells_of (cells_around ds) (walk (cells_around ds) s))
  unfolding cells_around
  walk_lawful s p con = (walks (cells_around ds)).complete s (rooted ds s p) con

-- with steps of 1 a lawful pick list of 1 to 16 picks picks a shape without fault
pub lawful_no_fault : (ds : List Cell) (n : ℕ) (p : List ℕ) → AllByRecursion (Within 1) ds → 1 ≤ n → n ≤ 16 → Lawful (cells_around ds) n p → shape_fault (shape_of ds p) ≡ None
lawful_no_fault ds n p short l m h =
    let s = shape_of ds p in
    let t = lawful_shape ds n p l h in
    let e = t.2 in
    let few : length s ≤ 15 + 1 = omega arith in
    no_fault s t.0 (omega arith) few (all_from_in (Within 15) s (connected_within ds s 15 short t.1 few))

-- ---- the shapes of the size
module _ (o : Opening) where
  abbrev lawful_lists : List (List ℕ)
  lawful_lists = all_picks (cells_around o.directions) o.size

  -- a lawful pick list picks one, and is its walk
  pub lawful_belongs : 1 ≤ o.size → (p : List ℕ) → Lawful (cells_around o.directions) o.size p → Belongs o (shape_of o.directions p) × (picks o (shape_of o.directions p) ≡ p)
  lawful_belongs l p h =
      let ds = o.directions in
      let t = lawful_shape ds o.size p l h in
      (record { position = t.0; connected = t.1; size = t.2 }, (walks (cells_around ds)).back o.size p (shape_of ds p) h (shape_items ds p))

  -- so does one of the list of all
  pub shape_belongs : 1 ≤ o.size → (p : List ℕ) → In p (all_picks (cells_around o.directions) o.size) → Belongs o (shape_of o.directions p) × (picks o (shape_of o.directions p) ≡ p)
  shape_belongs l p h = let g = cells_around o.directions in lawful_belongs l p (((picks_listed g o.size (first_places g) 0).lawful p).0 h)

  -- the walk of a shape of the size is on that list, and picks the shape
  pub belongs_picks : (s : List Cell) → Belongs o s → In (picks o s) (all_picks (cells_around o.directions) o.size) × (shape_of o.directions (picks o s) ≡ s)
  belongs_picks s b =
      let g = cells_around o.directions in
      let t = walk_lawful o.directions s b.position b.connected in (
        ((picks_listed g o.size (first_places g) 0).lawful (picks o s)).1 (subst (λ n. Lawful g n (picks o s)) b.size t.0),
        sorted_only cell_less cell_order (cells_of g (picks o s)) s b.position.ascending (λ x. (t.1 x).1) (λ x. (t.1 x).0),
      )

-- ---- the least members
module _ (o : Opening) (k : ClassLaws o.directions o.motions o.set) where
  -- the test tells the least members
  pub is_least_says : (s : List Cell) → NormalPosition s → (is_least o s ≡ true) ↔ Least o s
  is_least_says s p =
      let m = least_member o.motions o.set s in (
        λ e t i. subst (λ (u : List Cell). cells_less t u ≡ true → ⊥) ((cells_equality m s).0 e) (k.none_less s t p i),
        λ l. (cells_equality m s).1 (sym (k.only_least s s p (k.itself s p) l)),
      )

  -- the least member of a shape is least in its own class
  pub least_is_least : (s : List Cell) → NormalPosition s → Least o (least_member o.motions o.set s)
  least_is_least s p t i = k.none_less s t p (k.through s (least_member o.motions o.set s) t p (k.least_is_member s p) i)

  -- it is connected and has the size, if the shape is so
  pub least_belongs : (s : List Cell) → Belongs o s → Belongs o (least_member o.motions o.set s)
  least_belongs s b = belongs_member o k s (least_member o.motions o.set s) b (k.least_is_member s b.position)

  -- so its entry is right, and its class holds the shape
  pub least_right : (s : List Cell) → Belongs o s → RightEntry o (exact o (least_member o.motions o.set s))
  least_right s b = record { belongs = least_belongs s b; least = least_is_least s b.position; is_exact = refl }

  pub least_holds : (s : List Cell) → Belongs o s → InClass o (least_member o.motions o.set s) s
  least_holds s b = k.back s (least_member o.motions o.set s) b.position (k.least_is_member s b.position)

-- ---- the list
-- an order on a list is one on the images, where the function keeps it on the list
ascending_images : {X Y : Type 0} (less : X → X → Bool) (below : Y → Y → Bool) (f : X → Y) (xs : List X) → ((x y : X) → In x xs → In y xs → less x y ≡ true → below (f x) (f y) ≡ true) → Ascending less xs → Ascending below (map f xs)
ascending_images less below f [] keeps a = tt
ascending_images {Y = Y} less below f (x ∷ xs) keeps a = (
  λ y h. let t = from_map f xs y h in subst (λ (w : Y). below (f x) w ≡ true) (sym t.2) (keeps x t.0 (inl refl) (inr t.1) (a.0 t.0 t.1)),
  ascending_images less below f xs (λ y z h i. keeps y z (inr h) (inr i)) a.1,
)

module _ (o : Opening) (l : 1 ≤ o.size) where
  abbrev shapes : List (List Cell)
  shapes = map (shape_of o.directions) (lawful_lists o)

  abbrev earlier : List Cell → List Cell → Bool
  earlier s t = list_less ltb (picks o s) (picks o t)

  -- the shapes of the lawful pick lists are those of the size
  shapes_belong : (s : List Cell) → In s shapes → Belongs o s
  shapes_belong s h = let t = from_map (shape_of o.directions) (lawful_lists o) s h in subst (Belongs o) (sym t.2) (shape_belongs o l t.0 t.1).0

  in_shapes : (s : List Cell) → Belongs o s → In s shapes
  in_shapes s b = let t = belongs_picks o s b in in_cast shapes t.1 (in_map (shape_of o.directions) (lawful_lists o) (picks o s) t.0)

  shapes_ascending : Ascending earlier shapes
  shapes_ascending =
      let g = cells_around o.directions in
      ascending_images (list_less ltb) earlier (shape_of o.directions) (lawful_lists o) (λ p r h i e. rw ((shape_belongs o l p h).1, (shape_belongs o l r i).1) e) (picks_listed g o.size (first_places g) 0).ascends

  module _ (k : ClassLaws o.directions o.motions o.set) where
    abbrev leasts : List (List Cell)
    leasts = filter (is_least o) shapes

    leasts_right : (s : List Cell) → In s leasts → RightEntry o (exact o s)
    leasts_right s h =
        let t = from_kept (is_least o) shapes s h in
        let b = shapes_belong s t.0 in
        record { belongs = b; least = (is_least_says o k s b.position).0 t.1; is_exact = refl }

    in_leasts : (s : List Cell) → Belongs o s → Least o s → In s leasts
    in_leasts s b m = in_kept (is_least o) shapes s (in_shapes s b) ((is_least_says o k s b.position).1 m)

    pub listing_lists : Lists o (listing o)
    unfolding listing
    listing_lists = record {
      sound = λ e h. let t = from_map (exact o) leasts e h in subst (RightEntry o) (sym t.2) (leasts_right t.0 t.1);
      whole = λ s b.
          let m = least_member o.motions o.set s in
          (exact o m, in_map (exact o) leasts m (in_leasts m (least_belongs o k s b) (least_is_least o k s b.position)), least_holds o k s b);
      ascending = ascending_map earlier (by_picks o) (exact o) (λ s t e. e) leasts (ascending_kept earlier (is_least o) shapes shapes_ascending);
    }
