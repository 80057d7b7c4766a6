-- What a lattice is: a name, a list of directions, a list of motions numbered from 0, and a one-sided set of motion numbers,
-- which keep the rules below. Assumes nothing.
--     motion ms g                    the motion with the number g
--     number_of m ms                 the first number that m has among ms
--     number_after ms g h            the number of "g after h", which does h first and then g; 0 if g or h is beyond the count
--     inverse_number ms g            the lowest number h for which "h after g" is motion 0
--     image_under ms g x             the image of x under motion g; (0,0,0) if g is beyond the count or x out of reach
--     direction_at ds k              the direction with the number k; (0,0,0) beyond the count
--     in_one_sided ms os g           g is a motion's number and in the one-sided set os
--     Name bs                        1 to 9 lower-case letters or hyphens
--     Rules name ds ms os            the rules of a lattice
use Rattle.std.specs.Prelude.{◌≡◌, ℕ, suc, ◌<◌, ◌≤◌, Bool, true, cond, not, ◌&&◌, ◌⊎◌, List, [], ◌∷◌, length, ◌==◌, nat_lt, slice_index_or}
use Rattle.std.specs.List.{range_with_len, prefix_len, AllByRecursion}
use Rattle.ordered.specs.Members.{In, NoRepeats}
use Rattle.lattice.specs.declared.cell.Cell.{Cell}
use Rattle.lattice.specs.Cells.{origin, opposite, Within, in_reach}
use Rattle.lattice.specs.Matrices.{Matrix, image, product, identity, Small, same_matrix}

abbrev pub motion : List Matrix → ℕ → Matrix
motion ms g = slice_index_or ms g identity

abbrev pub number_of : Matrix → List Matrix → ℕ
number_of m [] = 0
number_of m (k ∷ ks) = cond (same_matrix k m) 0 (suc (number_of m ks))

abbrev pub number_after : List Matrix → ℕ → ℕ → ℕ
number_after ms g h = cond (nat_lt g (length ms) && nat_lt h (length ms)) (number_of (product (motion ms g) (motion ms h)) ms) 0

abbrev pub inverse_number : List Matrix → ℕ → ℕ
inverse_number ms g = prefix_len (λ h. not (number_after ms h g == 0)) (range_with_len 0 (length ms))

abbrev pub image_under : List Matrix → ℕ → Cell → Cell
image_under ms g x = cond (nat_lt g (length ms) && in_reach x) (image (motion ms g) x) origin

abbrev pub direction_at : List Cell → ℕ → Cell
direction_at ds k = slice_index_or ds k origin

abbrev pub in_one_sided : List Matrix → (ℕ → Bool) → ℕ → Bool
in_one_sided ms os g = nat_lt g (length ms) && os g

-- a hyphen, or a letter from a to z
abbrev pub NameLetter : ℕ → Type 0
NameLetter b = (b ≡ 45) ⊎ ((97 ≤ b) × (b ≤ 122))

pub record Name (bs : List ℕ) : Type 0 where
  pub some : 1 ≤ length bs
  pub short : length bs ≤ 9
  pub letters : AllByRecursion NameLetter bs

pub record Rules (name : List ℕ) (ds : List Cell) (ms : List Matrix) (os : ℕ → Bool) : Type 0 where
  -- 1. There are 1 to 26 directions, all different, none (0,0,0), with coordinates −1, 0 or 1.
  pub some_directions : 1 ≤ length ds
  pub few_directions : length ds ≤ 26
  pub directions_differ : NoRepeats ds
  pub directions_move : In origin ds → ⊥
  pub directions_short : AllByRecursion (Within 1) ds
  -- 2. The negative of a direction is a direction.
  pub directions_back : (d : Cell) → In d ds → In (opposite d) ds
  -- 3. There are 1 to 48 motions, all different, with entries −1, 0 or 1, and motion 0 is the identity.
  pub some_motions : 1 ≤ length ms
  pub few_motions : length ms ≤ 48
  pub motions_differ : NoRepeats ms
  pub motions_small : AllByRecursion Small ms
  pub motion_0 : motion ms 0 ≡ identity
  -- 4. A motion carries each direction to a direction.
  pub directions_carried : (m : Matrix) (d : Cell) → In m ms → In d ds → In (image m d) ds
  -- 5. "g after h" is always one of the motions; for each g there is an h with "h after g" motion 0.
  pub after_motion : (g h : Matrix) → In g ms → In h ms → In (product g h) ms
  pub undone : (g : ℕ) → g < length ms → (h : ℕ) × (h < length ms) × (number_after ms h g ≡ 0)
  -- 6. The one-sided set has 0 in it, and has "g after h" whenever it has g and h.
  pub one_sided_0 : os 0 ≡ true
  pub one_sided_after : (g h : ℕ) → g < length ms → h < length ms → os g ≡ true → os h ≡ true → os (number_after ms g h) ≡ true
  -- The name.
  pub named : Name name
