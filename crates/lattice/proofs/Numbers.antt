-- The numbers of motions: a motion's number, the number of a product, and what it does.
use Rattle.std.proofs.Common.{◌≡◌, ℕ, zero, suc, ◌<◌, Bool, false, ◌⊎◌, List, [], ◌∷◌, length, get_or, sym, refl, ap, ◌∙◌, inl, inr, arith}
use Rattle.std.proofs.lemmas.Bool.{lt-ltb}
use Rattle.ordered.specs.Members.{In, NoRepeats}
use Rattle.ordered.proofs.Counting.{differ, decide}
use Rattle.ordered.proofs.Members.{in_cast, in_get_or}
use Rattle.lattice.specs.declared.cell.Cell.{Cell}
use Rattle.lattice.specs.Matrices.{Matrix, image, product, identity, same_matrix}
use Rattle.lattice.specs.Lattices.{motion, number_of, number_after, Rules}
use Rattle.lattice.proofs.Products.{image_product, matrix_equality}

-- where all are different, a motion has the number of its place
pub number_at : (ms : List Matrix) (k : ℕ) (d : Matrix) → NoRepeats ms → k < length ms → number_of (get_or ms k d) ms ≡ k
number_at [] k d r h = absurd (omega arith)
number_at (m ∷ ms) zero d r h = rw ((matrix_equality m m).1 refl)
number_at (m ∷ ms) (suc k) d r h =
    let other : same_matrix m (get_or ms k d) ≡ false = differ same_matrix matrix_equality m (get_or ms k d) (λ e. r.0 (in_cast ms (sym e) (in_get_or ms k d (omega arith)))) in
    rw other (ap suc (number_at ms k d r.1 (omega arith)))

-- what is a motion stands at its number
pub number_found : (m : Matrix) (ms : List Matrix) → In m ms → (number_of m ms < length ms) × (motion ms (number_of m ms) ≡ m)
number_found m [] h = absurd h
number_found m (k ∷ ks) h = go (decide same_matrix matrix_equality k m) h (number_found m ks)
  where
    go : (k ≡ m) ⊎ (k ≡ m → ⊥) → In m (k ∷ ks) → (In m ks → (number_of m ks < length ks) × (motion ks (number_of m ks) ≡ m)) → (number_of m (k ∷ ks) < length (k ∷ ks)) × (motion (k ∷ ks) (number_of m (k ∷ ks)) ≡ m)
    go (inl e) q r = rw ((matrix_equality k m).1 e) (omega arith, e)
    go (inr n) (inl e) r = absurd (n (sym e))
    go (inr n) (inr q) r = let t = r q in rw (differ same_matrix matrix_equality k m n) (omega (arith, t.0), t.1)

module _ {name : List ℕ} {ds : List Cell} {ms : List Matrix} {os : ℕ → Bool} (R : Rules name ds ms os) (g h : ℕ) (k : g < length ms) (l : h < length ms) where
  after_number : number_after ms g h ≡ number_of (product (motion ms g) (motion ms h)) ms
  after_number = rw (lt-ltb g (length ms) k, lt-ltb h (length ms) l) refl

  after_found : (number_of (product (motion ms g) (motion ms h)) ms < length ms) × (motion ms (number_of (product (motion ms g) (motion ms h)) ms) ≡ product (motion ms g) (motion ms h))
  after_found = number_found (product (motion ms g) (motion ms h)) ms (R.after_motion (motion ms g) (motion ms h) (in_get_or ms g identity k) (in_get_or ms h identity l))

  pub after_below : number_after ms g h < length ms
  after_below = rw after_number after_found.0

  pub after_product : motion ms (number_after ms g h) ≡ product (motion ms g) (motion ms h)
  after_product = ap (motion ms) after_number ∙ after_found.1

-- what is told as the number of "g after h" does h first and then g
pub in_turn : {name : List ℕ} {ds : List Cell} {ms : List Matrix} {os : ℕ → Bool} → Rules name ds ms os → (g h r : ℕ) → r ≡ number_after ms g h → g < length ms → h < length ms → (x : Cell) → image (motion ms r) x ≡ image (motion ms g) (image (motion ms h) x)
in_turn {ms = ms} R g h r e k l x = ap (λ n. image (motion ms n) x) e ∙ ap (λ m. image m x) (after_product R g h k l) ∙ image_product (motion ms g) (motion ms h) x
