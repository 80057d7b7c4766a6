-- What a lister's answers are to the list of all classes.
use Rattle.std.proofs.Common.{◌≡◌, ℕ, ◌+◌, ◌<◌, true, false, cond, List, [], ◌∷◌, ◌++◌, length, get_or, drop, sym, refl, ap, ◌∙◌, subst, ⊎_elim, arith}
use Rattle.std.proofs.lemmas.List.{append-nil, drop_more}
use Rattle.std.proofs.lemmas.Bool.{cases_Bool, cond-true, cond-false, both_ways}
use Rattle.ordered.proofs.Members.{in_append_left}
use Rattle.lattice.specs.declared.cell.Cell.{Cell}
use Rattle.shapes.specs.Classes.{ClassLaws}
use Rattle.shapes.specs.Entries.{EntryValues}
use Rattle.shapes.specs.Positions.{NormalPosition}
use Rattle.shapes.specs.Shapes.{shape_cells}
use Rattle.shapes.proofs.ShapeFacts.{shape_position}
use Rattle.listing.specs.declared.calls.Answer.{Answer}
use Rattle.listing.specs.declared.calls.Answer.TheVariants.{Handed, Refused, Told}
use Rattle.listing.specs.declared.calls.Call.{Call}
use Rattle.listing.specs.declared.calls.Call.TheVariants.{Next, Ask}
use Rattle.listing.specs.declared.whereabouts.Whereabouts.{Whereabouts}
use Rattle.listing.specs.declared.whereabouts.Whereabouts.TheVariants.{Given, ToCome, Foreign}
use Rattle.listing.specs.Openings.{Opening}
use Rattle.listing.specs.Classes.{Belongs, Holds}
use Rattle.listing.specs.Listing.{Lists}
use Rattle.listing.specs.Runs.{handed_by, handed, ToldRight, Right}
use Rattle.sources.specs.Sources.{Standing, ahead}
use Rattle.listing.specs.Turns.{Answered}
use Rattle.listing.specs.Whereabouts.{belongs, is_among, whereabouts_of}
use Rattle.listing.proofs.Moments.{handed_push, SoFar, so_far_more, next_right, replied_ahead, replied_behind}
use Rattle.listing.proofs.OneList.{the_list}
use Rattle.listing.proofs.Places.{belongs_says, among_says}

module _ (o : Opening) (k : ClassLaws o.directions o.motions o.set) (b a : List EntryValues) (l : Lists o (b ++ a)) (s : List Cell) (at : NormalPosition s) where
  -- a class behind is in the list
  holds_left : Holds o b s → Holds o (b ++ a) s
  holds_left h = (h.0, in_append_left b a h.0 h.1, h.2)

  -- the three cases
  is_foreign : belongs o s ≡ false → ToldRight o (b ++ a) b s (Told Foreign)
  is_foreign n =
      let out : Holds o (b ++ a) s → ⊥ = λ h. both_ways (belongs o s) n ((belongs_says o s at).1 (((the_list o k (b ++ a) l).held s).0 h)) in
      record {
        told = (Foreign, refl);
        foreign = (λ _. out, λ _. refl);
        given = (λ e. let z : ◌≡◌ {A = ℕ} 0 1 = cc in absurd (omega arith), λ h. absurd (out (holds_left h)));
        to_come = (λ e. let z : ◌≡◌ {A = ℕ} 0 1 = cc in absurd (omega arith), λ h. absurd (out h.0));
      }

  module _ (v : Belongs o s) where
    held : Holds o (b ++ a) s
    held = l.whole s v

    is_given : is_among o b s ≡ true → ToldRight o (b ++ a) b s (Told Given)
    is_given m =
        let h : Holds o b s = (among_says o k b a l s v).0 m in
        record {
          told = (Given, refl);
          foreign = (λ e. let z : ◌≡◌ {A = ℕ} 0 1 = cc in absurd (omega arith), λ n. absurd (n held));
          given = (λ _. h, λ _. refl);
          to_come = (λ e. let z : ◌≡◌ {A = ℕ} 0 1 = cc in absurd (omega arith), λ n. absurd (n.1 h));
        }

    is_to_come : is_among o b s ≡ false → ToldRight o (b ++ a) b s (Told ToCome)
    is_to_come m =
        let out : Holds o b s → ⊥ = λ h. both_ways (is_among o b s) m ((among_says o k b a l s v).1 h) in
        record {
          told = (ToCome, refl);
          foreign = (λ e. let z : ◌≡◌ {A = ℕ} 0 1 = cc in absurd (omega arith), λ n. absurd (n held));
          given = (λ e. let z : ◌≡◌ {A = ℕ} 0 1 = cc in absurd (omega arith), λ h. absurd (out h));
          to_come = (λ _. (held, out), λ _. refl);
        }

  pub told_right : (w : Whereabouts) → w ≡ whereabouts_of o b s → ToldRight o (b ++ a) b s (Told w)
  told_right w e =
      ⊎_elim
      (λ (t : belongs o s ≡ true). ⊎_elim
      (λ (m : is_among o b s ≡ true). subst (λ (x : Whereabouts). ToldRight o (b ++ a) b s (Told x)) (sym (e ∙ cond-true (belongs o s) (cond (is_among o b s) Given ToCome) Foreign t ∙ cond-true (is_among o b s) Given ToCome m)) (is_given ((belongs_says o s at).0 t) m))
      (λ (m : is_among o b s ≡ false). subst (λ (x : Whereabouts). ToldRight o (b ++ a) b s (Told x)) (sym (e ∙ cond-true (belongs o s) (cond (is_among o b s) Given ToCome) Foreign t ∙ cond-false (is_among o b s) Given ToCome m)) (is_to_come ((belongs_says o s at).0 t) m))
      (cases_Bool (is_among o b s)))
      (λ (t : belongs o s ≡ false). subst (λ (x : Whereabouts). ToldRight o (b ++ a) b s (Told x)) (sym (e ∙ cond-false (belongs o s) (cond (is_among o b s) Given ToCome) Foreign t)) (is_foreign t))
      (cases_Bool (belongs o s))

module _ (o : Opening) (s t : Standing) where
  pub answered_ahead : (c : Call) (a : Answer) → Answered o s c a t → ahead s ≡ handed_by a ++ ahead t
  answered_ahead Next a h = replied_ahead s t a h
  answered_ahead (Ask x) (Handed e) h = absurd h
  answered_ahead (Ask x) (Refused r) h = absurd h
  answered_ahead (Ask x) (Told w) h = sym (ap ahead h.1)

  pub answered_behind : (c : Call) (a : Answer) → Answered o s c a t → t.behind ≡ s.behind ++ handed_by a
  answered_behind Next a h = replied_behind s t a h
  answered_behind (Ask x) (Handed e) h = absurd h
  answered_behind (Ask x) (Refused r) h = absurd h
  answered_behind (Ask x) (Told w) h = ap (λ u. u.behind) h.1 ∙ sym (append-nil s.behind)

  -- the answer to any call of a lister whose list is whole
  pub answered_right : ClassLaws o.directions o.motions o.set → (list : List EntryValues) → Lists o list → s.behind ++ ahead s ≡ list → (c : Call) (a : Answer) → Answered o s c a t → Right o list s.behind c a
  answered_right k list l e Next a h = next_right s t list s.behind e a h
  answered_right k list l e (Ask x) (Handed d) h = absurd h
  answered_right k list l e (Ask x) (Refused r) h = absurd h
  answered_right k list l e (Ask x) (Told w) h =
      subst (λ (es : List EntryValues). ToldRight o es s.behind (shape_cells x) (Told w)) e (told_right o k s.behind (ahead s) (subst (Lists o) (sym e) l) (shape_cells x) (shape_position x) w h.0)

-- one call more of a run
module _ (o : Opening) (k : ClassLaws o.directions o.motions o.set) (list : List EntryValues) (l : Lists o list) (cs : List Call) (old : List Answer) (s t : Standing) (f : SoFar (Right o list) list cs old (ahead s)) (b : s.behind ≡ handed old) where
  pub call_more : (i : ℕ) → length old ≡ i → i < length cs → (q : Call) → get_or cs i Next ≡ q → (r : Answer) → Answered o s q r t → SoFar (Right o list) list cs (old ++ r ∷ []) (ahead t) × (t.behind ≡ handed (old ++ r ∷ []))
  call_more i e h q asked r x =
      let here : s.behind ++ ahead s ≡ list = ap (λ p. p ++ ahead s) b ∙ f.left in
      let good : Right o list (handed old) q r = subst (λ (p : List EntryValues). Right o list p q r) b (answered_right o s t k list l here q r x) in
      let lt : length old < length cs = omega arith in
      let next : drop (length old) cs ≡ q ∷ drop (length old + 1) cs = drop_more cs (length old) Next lt ∙ ap (λ c. c ∷ drop (length old + 1) cs) (ap (λ n. get_or cs n Next) e ∙ asked) in (
        so_far_more (Right o list) list cs old (ahead s) f r (ahead t) (answered_ahead o s t q r x) q (drop (length old + 1) cs) next good,
        answered_behind o s t q r x ∙ ap (λ p. p ++ handed_by r) b ∙ sym (handed_push old r),
      )
