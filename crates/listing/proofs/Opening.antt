-- What an opening gives, and that its classes keep the laws.
use Rattle.std.proofs.Common.{◌≡◌, ℕ, ◌≤◌, Bool, true, false, cond, ◌&&◌, leb, List, Ok, Err, Result, sym, refl, ap, ◌∙◌, subst, arith}
use Rattle.std.proofs.lemmas.Bool.{and_parts, leb-true}
use Rattle.lattice.specs.declared.cell.Cell.{Cell}
use Rattle.lattice.specs.declared.kind.Kind.{Kind}
use Rattle.lattice.specs.Kinds.{Closed, numbered_kind, kind_motions, motions_or_refusal, numbered_motions}
use Rattle.lattice.specs.Lattices.{Rules}
use Rattle.lattice.specs.Matrices.{Matrix}
use Rattle.lattice.proofs.Uses.{kind_closed}
use Rattle.shapes.specs.Classes.{ClassLaws}
use Rattle.shapes.proofs.Classes.{classes_hold}
use Rattle.listing.specs.Openings.{Opening, opening, with_set, opening_for, Opened}

-- a value was opened by an opening
pub opened_by : {X : Type 0} (x : Result Opening ℕ) (s : X) (P : X → Opening → Type 0) → Opened x (Ok s) P → (o : Opening) × (x ≡ Ok o) × P s o
opened_by (Ok o) s P h = (o, refl, h)
opened_by (Err n) s P h = absurd h

module _ (name : List ℕ) (ds : List Cell) (ms : List Matrix) (os : ℕ → Bool) (r : Rules name ds ms os) where
  set_closed : (k : Result Kind ℕ) (gs : List ℕ) → motions_or_refusal ms os k ≡ Ok gs → Closed ms gs
  set_closed (Ok k) gs e = let same : kind_motions ms os k ≡ gs = cc in subst (Closed ms) same (kind_closed r k)
  set_closed (Err n) gs e = let z : ◌≡◌ {A = ℕ} 0 1 = cc in absurd (omega arith)

  with_set_laws : (n : ℕ) → 1 ≤ n → (m : Result (List ℕ) ℕ) → ((gs : List ℕ) → m ≡ Ok gs → Closed ms gs) → (o : Opening) → with_set ds ms n m ≡ Ok o → ClassLaws o.directions o.motions o.set × (1 ≤ o.size)
  with_set_laws n some (Ok gs) c o e =
      let same : opening ds ms n gs ≡ o = cc in
      subst (λ p. ClassLaws p.directions p.motions p.set × (1 ≤ p.size)) same (classes_hold name ds ms os gs r (c gs refl), some)
  with_set_laws n some (Err k) c o e = let z : ◌≡◌ {A = ℕ} 0 1 = cc in absurd (omega arith)

  -- the classes of an opening keep the laws, and its size is not 0
  pub opening_laws : (n k : ℕ) (o : Opening) → opening_for ds ms os n k ≡ Ok o → ClassLaws o.directions o.motions o.set × (1 ≤ o.size)
  opening_laws n k o e = go (leb 1 n && leb n 16) refl
    where
      go : (b : Bool) → (leb 1 n && leb n 16) ≡ b → ClassLaws o.directions o.motions o.set × (1 ≤ o.size)
      go true h = with_set_laws n (leb-true 1 n (and_parts (leb 1 n) (leb n 16) h).0) (numbered_motions ms os k) (set_closed (numbered_kind k)) o (ap (λ b. cond b (with_set ds ms n (numbered_motions ms os k)) (Err 1)) (sym h) ∙ e)
      go false h = let wrong : ◌≡◌ {A = Result Opening ℕ} (Err 1) (Ok o) = ap (λ b. cond b (with_set ds ms n (numbered_motions ms os k)) (Err 1)) (sym h) ∙ e in let z : ◌≡◌ {A = ℕ} 0 1 = cc in absurd (omega arith)
