-- Where the class of a shape is, in a list of all classes of which some are behind.
use Rattle.std.proofs.Common.{◌≡◌, Bool, true, eqb, ◌⊎◌, ◌↔◌, List, [], ◌∷◌, ◌++◌, length, sym, refl, ◌∙◌, subst, inl, inr, ⊎_elim}
use Rattle.std.proofs.lemmas.Bool.{and_parts, and_from, eqb-true, eq-eqb}
use Rattle.ordered.specs.Members.{In}
use Rattle.ordered.specs.Orders.{Ascending}
use Rattle.ordered.proofs.Members.{in_append_left, in_append_right, from_append}
use Rattle.lattice.specs.declared.cell.Cell.{Cell}
use Rattle.shapes.specs.Classes.{same_cells, least_member, ClassLaws}
use Rattle.shapes.specs.Entries.{EntryValues}
use Rattle.shapes.specs.Floods.{connected}
use Rattle.shapes.specs.Positions.{NormalPosition}
use Rattle.shapes.proofs.Classes.{cells_equality}
use Rattle.shapes.proofs.Floods.{connected_decides, some_pass_says, some_pass_from}
use Rattle.listing.specs.Openings.{Opening}
use Rattle.listing.specs.Classes.{Belongs, InClass, exact, Holds}
use Rattle.listing.specs.Listing.{by_picks, Lists}
use Rattle.listing.specs.Whereabouts.{belongs, is_among}
use Rattle.listing.proofs.OneList.{by_picks_one_way, right_in}
use Rattle.listing.proofs.Made.{least_holds, least_right}

-- ---- one ascending list behind another
module _ {X : Type 0} (less : X → X → Bool) where
  -- an item of the front is before one of the back
  across : (xs ys : List X) (x y : X) → Ascending less (xs ++ ys) → In x xs → In y ys → less x y ≡ true
  across [] ys x y a h i = absurd h
  across (z ∷ xs) ys x y a (inl e) i = subst (λ (w : X). less w y ≡ true) (sym e) (a.0 y (in_append_right xs ys y i))
  across (z ∷ xs) ys x y a (inr h) i = across xs ys x y a.1 h i

  -- the front ascends
  ascending_left : (xs ys : List X) → Ascending less (xs ++ ys) → Ascending less xs
  ascending_left [] ys a = tt
  ascending_left (z ∷ xs) ys a = (λ y h. a.0 y (in_append_left xs ys y h), ascending_left xs ys a.1)

-- ---- which shapes belong
-- the test tells them
pub belongs_says : (o : Opening) (s : List Cell) → NormalPosition s → (belongs o s ≡ true) ↔ Belongs o s
belongs_says o s p =
    let con = connected_decides o.directions s in (
      λ e.
          let t = and_parts (eqb (length s) o.size) (connected o.directions s) e in
          record { position = p; connected = con.0 t.1; size = eqb-true (length s) o.size t.0 },
      λ b. and_from (eqb (length s) o.size) (connected o.directions s) (eq-eqb (length s) o.size b.size) (con.1 b.connected),
    )

module _ (o : Opening) (k : ClassLaws o.directions o.motions o.set) (b a : List EntryValues) (l : Lists o (b ++ a)) where
  -- the class of a shape is the one whose least member is the shape's
  pub among_says : (s : List Cell) → Belongs o s → (is_among o b s ≡ true) ↔ Holds o b s
  among_says s v =
      let m = least_member o.motions o.set s in
      let same : EntryValues → Bool = λ e. same_cells e.cells m in (
        λ e.
            let t = some_pass_says same b e in
            (t.0, t.1, subst (λ (u : List Cell). InClass o u s) (sym ((cells_equality t.0.cells m).0 t.2)) (least_holds o k s v)),
        λ h.
            let e = h.0 in
            let r = l.sound e (in_append_left b a e h.1) in
            let p = r.belongs.position in
            let own : e.cells ≡ least_member o.motions o.set e.cells = k.only_least e.cells e.cells p (k.itself e.cells p) r.least in
            some_pass_from same b e h.1 ((cells_equality e.cells m).1 (own ∙ sym (k.same_least e.cells s p h.2))),
      )

  -- the least member of a shape is listed
  pub least_listed : (s : List Cell) → Belongs o s → In (exact o (least_member o.motions o.set s)) (b ++ a)
  least_listed s v = right_in o k (exact o (least_member o.motions o.set s)) (least_right o k s v) (b ++ a) l

  -- what is listed is behind exactly if the last one behind does not come before it
  pub up_to_last : (c : List EntryValues) (last e : EntryValues) → b ≡ c ++ last ∷ [] → In e (b ++ a) → (by_picks o last e ≡ true → ⊥) ↔ In e b
  up_to_last c last e q h = (λ n. ⊎_elim (λ i. i) (λ i. absurd (n (across (by_picks o) b a last e l.ascending last_in i))) (from_append b a e h), λ i. up (from_append c (last ∷ []) e (subst (In e) q i)))
    where
      last_in : In last b
      last_in = subst (In last) (sym q) (in_append_right c (last ∷ []) last (inl refl))

      front : Ascending (by_picks o) (c ++ last ∷ [])
      front = subst (Ascending (by_picks o)) q (ascending_left (by_picks o) b a l.ascending)

      up : In e c ⊎ In e (last ∷ []) → by_picks o last e ≡ true → ⊥
      up (inl i) m = by_picks_one_way o last e m (across (by_picks o) c (last ∷ []) e last front i (inl refl))
      up (inr (inl i)) m = let level : by_picks o last last ≡ true = subst (λ (w : EntryValues). by_picks o last w ≡ true) i m in by_picks_one_way o last last level level
      up (inr (inr i)) m = i
