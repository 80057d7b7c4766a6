-- Proofs that the lattices keep the rules, each from one test that is computed. They define nothing that a contract means.
use Rattle.std.specs.Prelude.{◌≡◌, ℕ, ◌-◌, ◌*◌, ◌%◌, Bool, true, cond, List, nat_lt, refl}
use Rattle.lattice.specs.declared.cell.Cell.{Cell}
use Rattle.lattice.specs.Matrices.{Matrix, image, row_times, product, identity, same_matrix}
use Rattle.lattice.specs.Lattices.{number_after, Rules}
use Rattle.lattice.proofs.Lawful.{lawful, rules, after_all}
use Rattle.lattices.specs.Plane.{swap, plane_motion, plane_motions, plane_after}
use Rattle.lattices.specs.Square.{square_name, square_directions, square_turn, square_motions, square_one_sided}
use Rattle.lattices.specs.Hex.{hex_name, hex_directions, hex_turn, hex_motions, hex_one_sided}

-- the turns undo one another, and a swap undoes itself
abbrev plane_undo : ℕ → ℕ → ℕ
plane_undo n g = cond (nat_lt g n) ((n - g) % n) g

-- a lattice of the plane that passes the test
module _ (name : List ℕ) (ds : List Cell) (turn : Matrix) (n : ℕ) (os : ℕ → Bool) (ok : lawful name ds (plane_motion turn n) (2 * n) os (plane_after n) (plane_undo n) ≡ true) where
  plane_rules : Rules name ds (plane_motions turn n) os
  plane_rules = rules name ds (plane_motion turn n) (2 * n) os (plane_after n) (plane_undo n) ok

  plane_after_is : (g h : ℕ) → number_after (plane_motions turn n) g h ≡ plane_after n g h
  plane_after_is = after_all name ds (plane_motion turn n) (2 * n) os (plane_after n) (plane_undo n) ok (λ g h e. rw e)

square_lawful : lawful square_name square_directions (plane_motion square_turn 4) 8 square_one_sided (plane_after 4) (plane_undo 4) ≡ true
unfolding lawful image product row_times identity same_matrix swap square_turn
square_lawful = refl

pub square_motions_are : square_motions ≡ plane_motions square_turn 4
unfolding square_motions
square_motions_are = refl

pub square_rules : Rules square_name square_directions square_motions square_one_sided
unfolding square_motions
square_rules = plane_rules square_name square_directions square_turn 4 square_one_sided square_lawful

pub square_after : (g h : ℕ) → number_after square_motions g h ≡ plane_after 4 g h
unfolding square_motions
square_after = plane_after_is square_name square_directions square_turn 4 square_one_sided square_lawful

hex_lawful : lawful hex_name hex_directions (plane_motion hex_turn 6) 12 hex_one_sided (plane_after 6) (plane_undo 6) ≡ true
unfolding lawful image product row_times identity same_matrix swap hex_turn
hex_lawful = refl

pub hex_motions_are : hex_motions ≡ plane_motions hex_turn 6
unfolding hex_motions
hex_motions_are = refl

pub hex_rules : Rules hex_name hex_directions hex_motions hex_one_sided
unfolding hex_motions
hex_rules = plane_rules hex_name hex_directions hex_turn 6 hex_one_sided hex_lawful

pub hex_after : (g h : ℕ) → number_after hex_motions g h ≡ plane_after 6 g h
unfolding hex_motions
hex_after = plane_after_is hex_name hex_directions hex_turn 6 hex_one_sided hex_lawful
