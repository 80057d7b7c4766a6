-- A list of all classes is the only one: its entries are the least members, one for each class, and their order leaves no choice.
use Rattle.std.proofs.Common.{◌≡◌, Bool, true, List, [], ◌∷◌, sym, refl, ap, ◌∙◌, subst, inl, inr}
use Rattle.ordered.specs.Members.{In}
use Rattle.ordered.specs.Orders.{Ascending}
use Rattle.ordered.proofs.Members.{in_cast}
use Rattle.lattice.specs.declared.cell.Cell.{Cell}
use Rattle.shapes.specs.Classes.{ClassLaws}
use Rattle.shapes.specs.Entries.{EntryValues}
use Rattle.shapes.proofs.Classes.{cells_order}
use Rattle.walk.proofs.Orders.{picks_order}
use Rattle.listing.specs.Openings.{Opening}
use Rattle.listing.specs.Classes.{Belongs, InClass, exact, picks}
use Rattle.listing.specs.Listing.{RightEntry, by_picks, Lists, TheList}

-- ---- lists that ascend by a test that never says yes both ways
module _ {X : Type 0} (less : X → X → Bool) (one_way : (x y : X) → less x y ≡ true → less y x ≡ true → ⊥) where
  -- both begin alike
  heads : (x y : X) (xs ys : List X) → Ascending less (x ∷ xs) → Ascending less (y ∷ ys) → In x (y ∷ ys) → In y (x ∷ xs) → x ≡ y
  heads x y xs ys a b (inl e) k = e
  heads x y xs ys a b (inr h) (inl e) = sym e
  heads x y xs ys a b (inr h) (inr k) = absurd (one_way x y (a.0 y k) (b.0 x h))

  -- what stands behind x stands behind an equal head
  behind : (x y z : X) (xs ys : List X) → Ascending less (x ∷ xs) → x ≡ y → In z xs → In z (y ∷ ys) → In z ys
  behind x y z xs ys a e h (inl i) = let r : less x x ≡ true = subst (λ (w : X). less x w ≡ true) (i ∙ sym e) (a.0 z h) in absurd (one_way x x r r)
  behind x y z xs ys a e h (inr k) = k

  -- two such lists with the same items are one
  one_ascending : (xs ys : List X) → Ascending less xs → Ascending less ys → ((z : X) → In z xs → In z ys) → ((z : X) → In z ys → In z xs) → xs ≡ ys
  one_ascending [] [] a b f g = refl
  one_ascending [] (y ∷ ys) a b f g = absurd (g y (inl refl))
  one_ascending (x ∷ xs) [] a b f g = absurd (f x (inl refl))
  one_ascending (x ∷ xs) (y ∷ ys) a b f g =
      let e : x ≡ y = heads x y xs ys a b (f x (inl refl)) (g y (inl refl)) in
      let t : xs ≡ ys = one_ascending xs ys a.1 b.1 (λ z h. behind x y z xs ys a e h (f z (inr h))) (λ z h. behind y x z ys xs b (sym e) h (g z (inr h))) in
      cc

-- ---- entries
-- no pick list comes before and behind another
pub by_picks_one_way : (o : Opening) (d e : EntryValues) → by_picks o d e ≡ true → by_picks o e d ≡ true → ⊥
by_picks_one_way o d e h k = let p = picks o d.cells in let q = picks o e.cells in picks_order.irreflexive p (picks_order.transitive p q p h k)

module _ (o : Opening) (k : ClassLaws o.directions o.motions o.set) where
  -- a member of a connected shape of the size is one
  pub belongs_member : (s t : List Cell) → Belongs o s → InClass o s t → Belongs o t
  belongs_member s t b m = record {
    position = k.member_position s t b.position m;
    connected = k.member_connected s t b.position m b.connected;
    size = k.member_length s t b.position m ∙ b.size;
  }

  -- right entries of one class are equal
  pub one_least : (d e : EntryValues) → RightEntry o d → RightEntry o e → InClass o d.cells e.cells → d ≡ e
  one_least d e p q m =
      let n = k.back d.cells e.cells p.belongs.position m in
      let same = cells_order.trichotomous d.cells e.cells (q.least d.cells n) (p.least e.cells m) in
      p.is_exact ∙ ap (exact o) same ∙ sym q.is_exact

  -- so are two whose classes hold one shape
  pub one_holder : (d e : EntryValues) (s : List Cell) → RightEntry o d → RightEntry o e → InClass o d.cells s → InClass o e.cells s → d ≡ e
  one_holder d e s p q m n = one_least d e p q (k.through d.cells s e.cells p.belongs.position m (k.back e.cells s q.belongs.position n))

  -- a right entry is in every list of all classes
  pub right_in : (e : EntryValues) → RightEntry o e → (es : List EntryValues) → Lists o es → In e es
  right_in e p es l =
      let f = l.whole e.cells p.belongs in
      in_cast es (one_least f.0 e (l.sound f.0 f.1) p f.2) f.1

  -- a list of all classes is the only one
  pub the_list : (es : List EntryValues) → Lists o es → TheList o es
  the_list es l = record {
    lists = l;
    only = λ fs m. one_ascending (by_picks o) (by_picks_one_way o) fs es m.ascending l.ascending (λ e h. right_in e (m.sound e h) es l) (λ e h. right_in e (l.sound e h) fs m);
    once = λ d e h i m. one_least d e (l.sound d h) (l.sound e i) m;
    held = λ s. (λ h. belongs_member h.0.cells s (l.sound h.0 h.1).belongs h.2, l.whole s);
  }
