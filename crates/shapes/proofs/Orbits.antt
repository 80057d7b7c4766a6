-- The orbit: its size times the length of the stabiliser is the number of motions.
use Rattle.std.proofs.Common.{◌≡◌, ℕ, ◌*◌, ◌≤◌, Bool, eqb, List, map, length, filter, sym, refl, ap, ◌∙◌, le_antisymm, arith}
use lib.ListN.{length-map}
use Rattle.ordered.specs.Members.{In, NoRepeats}
use Rattle.ordered.specs.Orders.{StrictTotal}
use Rattle.ordered.proofs.Members.{in_cast, in_map, from_map, in_kept, from_kept, no_repeats_map, no_repeats_kept}
use Rattle.ordered.proofs.Counting.{Equality, number_equality, total_same, total_const, fits, fibres}
use Rattle.ordered.proofs.Sorted.{sorted_in, sorted_out, sorted_ascending, sorted_no_repeats}
use Rattle.shapes.specs.Actions.{Acts, Member, stabiliser, orbit, OrbitLaws}
use Rattle.shapes.proofs.Actions.{inverse, inverse_in, undo_left}

module _ {X : Type 0} (Good : X → Type 0) (gs : List ℕ) (after : ℕ → ℕ → ℕ) (act : ℕ → X → X) (A : Acts Good gs after act) (same : X → X → Bool) (eq : Equality same) where
  -- the motions that carry x to y are as many as those that leave x as it is
  pub fibre_length : (x y : X) → Good x → Member gs act x y → length (filter (λ m. same (act m x) y) gs) ≡ length (stabiliser same gs act x)
  fibre_length x y k t = le_antisymm down up
    where
      g : ℕ
      g = t.0

      p : In g gs
      p = t.1

      h : ℕ
      h = inverse Good gs after act A g p

      q : In h gs
      q = inverse_in Good gs after act A g p

      stays : ℕ → Bool
      stays m = same (act m x) x

      arrives : ℕ → Bool
      arrives m = same (act m x) y

      stab : List ℕ
      stab = filter stays gs

      fibre : List ℕ
      fibre = filter arrives gs

      from_stab : (n : ℕ) → In n (map (after g) stab) → In n fibre
      from_stab n r =
          let s = from_map (after g) stab n r in
          let u = from_kept stays gs s.0 s.1 in
          in_kept arrives gs n (in_cast gs (sym s.2) (A.closed g s.0 p u.0))
          ((eq (act n x) y).1 (ap (λ (m : ℕ). act m x) s.2 ∙ A.act_after g s.0 x p u.0 k ∙ ap (act g) ((eq (act s.0 x) x).0 u.1) ∙ sym t.2))

      from_fibre : (n : ℕ) → In n (map (after h) fibre) → In n stab
      from_fibre n r =
          let s = from_map (after h) fibre n r in
          let u = from_kept arrives gs s.0 s.1 in
          in_kept stays gs n (in_cast gs (sym s.2) (A.closed h s.0 q u.0))
          ((eq (act n x) x).1 (ap (λ (m : ℕ). act m x) s.2 ∙ A.act_after h s.0 x q u.0 k ∙ ap (act h) ((eq (act s.0 x) y).0 u.1 ∙ t.2) ∙ undo_left Good gs after act A g p x k))

      -- "f after m", for the m that pass a test
      apart : (f : ℕ) → In f gs → (test : ℕ → Bool) → NoRepeats (map (after f) (filter test gs))
      apart f i test = no_repeats_map (after f) (filter test gs) (no_repeats_kept test gs A.no_repeats) (λ a b l m. A.cancel f a b i (from_kept test gs a l).0 (from_kept test gs b m).0)

      up : length stab ≤ length fibre
      up = omega (arith, length-map stab (after g), fits eqb number_equality (map (after g) stab) fibre (apart g p stays) from_stab)

      down : length fibre ≤ length stab
      down = omega (arith, length-map fibre (after h), fits eqb number_equality (map (after h) fibre) stab (apart h q arrives) from_fibre)

  -- of any list of all members without repeats
  pub orbit_stabiliser : (x : X) (os : List X) → Good x → NoRepeats os → ((y : X) → In y os → Member gs act x y) → ((y : X) → Member gs act x y → In y os) → length os * length (stabiliser same gs act x) ≡ length gs
  orbit_stabiliser x os k a mem all =
      let n = length (stabiliser same gs act x) in
      sym (fibres same eq (λ m. act m x) gs os a (λ m p. all (act m x) (m, p, refl)) ∙ total_same (λ y. length (filter (λ m. same (act m x) y) gs)) (λ y. n) os (λ y p. fibre_length x y k (mem y p)) ∙ total_const n os)

  module _ (less : X → X → Bool) (O : StrictTotal less) where
    pub orbit_members : (x y : X) → In y (orbit less gs act x) → Member gs act x y
    orbit_members x y h = from_map (λ g. act g x) gs y (sorted_out less O (map (λ g. act g x) gs) y h)

    pub orbit_all : (x y : X) → Member gs act x y → In y (orbit less gs act x)
    orbit_all x y t = in_cast (orbit less gs act x) (sym t.2) (sorted_in less O (map (λ g. act g x) gs) (act t.0 x) (in_map (λ g. act g x) gs t.0 t.1))

    pub orbit_laws : OrbitLaws Good less same gs act
    orbit_laws = record {
      ascending = λ x. sorted_ascending less O (map (λ g. act g x) gs);
      members = orbit_members;
      all_members = orbit_all;
      times_stabiliser = λ x k. orbit_stabiliser x (orbit less gs act x) k (sorted_no_repeats less O (map (λ g. act g x) gs)) (orbit_members x) (orbit_all x);
    }
