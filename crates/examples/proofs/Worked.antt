-- The worked examples hold: each is computed.
use Rattle.std.proofs.Common.{◌≡◌, [], ◌∷◌, take, Some, Ok, refl, ap, ◌∙◌}
use Rattle.lattice.specs.Lattices.{number_after}
use Rattle.lattice.specs.Matrices.{image, row_times, product, identity, same_matrix}
use Rattle.lattices.specs.Plane.{swap}
use Rattle.lattices.specs.Square.{square_directions, square_turn, square_motions}
use Rattle.lattices.specs.Hex.{hex_turn, hex_motions}
use Rattle.lattices.specs.Cubic.{cubic_motion, cubic_motions}
use Rattle.shapes.specs.Entries.{values}
use Rattle.walk.specs.CellsAround.{cells_around}
use Rattle.walk.specs.Listings.{all_picks}
use Rattle.walk.specs.Walks.{pick_list}
use Rattle.listing.specs.declared.whereabouts.Whereabouts.TheVariants.{Given, ToCome}
use Rattle.listing.specs.Made.{listing}
use Rattle.listing.specs.Whereabouts.{whereabouts_of}
use Rattle.examples.specs.Worked.{at, pair, corner, line, climb, square_opening, hex_opening, cubic_opening, square_free, hex_free, cubic_free, WorkedExamples}

square_after : number_after square_motions 4 1 ≡ 7
unfolding square_motions square_turn swap row_times product identity same_matrix
square_after = refl

cubic_after : number_after cubic_motions 8 1 ≡ 12
unfolding cubic_motions cubic_motion row_times product identity same_matrix
cubic_after = refl

picked : pick_list (cells_around square_directions) (at 0 0 0 ∷ at 1 0 0 ∷ at 1 1 0 ∷ []) ≡ Some (0 ∷ 1 ∷ 4 ∷ [])
unfolding cells_around
picked = refl

all_picked : all_picks (cells_around square_directions) 3 ≡ (0 ∷ 1 ∷ 2 ∷ []) ∷ (0 ∷ 1 ∷ 3 ∷ []) ∷ (0 ∷ 1 ∷ 4 ∷ []) ∷ (0 ∷ 2 ∷ 3 ∷ []) ∷ (0 ∷ 2 ∷ 4 ∷ []) ∷ (0 ∷ 2 ∷ 5 ∷ []) ∷ []
unfolding cells_around
all_picked = refl

opens_16 : square_opening 16 2 ≡ Ok (square_free 16)
unfolding square_motions
opens_16 = refl

square_opens_3 : square_opening 3 2 ≡ Ok (square_free 3)
unfolding square_motions
square_opens_3 = refl

square_listed : listing (square_free 3) ≡ values corner (0 ∷ 4 ∷ []) 4 ∷ values line (0 ∷ 2 ∷ 5 ∷ 7 ∷ []) 2 ∷ []
unfolding listing cells_around square_motions square_turn swap image row_times product identity
square_listed = refl

-- with the first entry behind
corner_given : whereabouts_of (square_free 3) (values corner (0 ∷ 4 ∷ []) 4 ∷ []) climb ≡ Given
unfolding square_motions square_turn swap image row_times product identity
corner_given = refl

line_to_come : whereabouts_of (square_free 3) (values corner (0 ∷ 4 ∷ []) 4 ∷ []) line ≡ ToCome
unfolding square_motions square_turn swap image row_times product identity
line_to_come = refl

climb_given : whereabouts_of (square_free 3) (take 1 (listing (square_free 3))) climb ≡ Given
climb_given = ap (λ es. whereabouts_of (square_free 3) (take 1 es) climb) square_listed ∙ corner_given

line_comes : whereabouts_of (square_free 3) (take 1 (listing (square_free 3))) line ≡ ToCome
line_comes = ap (λ es. whereabouts_of (square_free 3) (take 1 es) line) square_listed ∙ line_to_come

hex_opens_2 : hex_opening 2 2 ≡ Ok (hex_free 2)
unfolding hex_motions
hex_opens_2 = refl

hex_listed : listing (hex_free 2) ≡ values pair (0 ∷ 3 ∷ 8 ∷ 11 ∷ []) 3 ∷ []
unfolding listing cells_around hex_motions hex_turn swap image row_times product identity
hex_listed = refl

cubic_opens_2 : cubic_opening 2 2 ≡ Ok (cubic_free 2)
unfolding cubic_motions
cubic_opens_2 = refl

cubic_listed : listing (cubic_free 2) ≡ values pair (0 ∷ 1 ∷ 2 ∷ 3 ∷ 4 ∷ 5 ∷ 6 ∷ 7 ∷ 24 ∷ 25 ∷ 26 ∷ 27 ∷ 28 ∷ 29 ∷ 30 ∷ 31 ∷ []) 3 ∷ []
unfolding listing cells_around cubic_motions cubic_motion image row_times product identity
cubic_listed = refl

pub examples : WorkedExamples
examples = record {
  square_4_after_1 = square_after;
  cubic_8_after_1 = cubic_after;
  reach_15 = refl;
  reach_16 = refl;
  reach_number = refl;
  twice = refl;
  order_number = refl;
  square_pick_list = picked;
  square_all_picks = all_picked;
  size_0 = refl;
  size_17 = refl;
  size_0_kind_3 = refl;
  size_17_kind_3 = refl;
  kind_3 = refl;
  size_16 = opens_16;
  square_opens = square_opens_3;
  square_listing = square_listed;
  given = climb_given;
  to_come = line_comes;
  foreign = refl;
  hex_opens = hex_opens_2;
  hex_listing = hex_listed;
  cubic_opens = cubic_opens_2;
  cubic_listing = cubic_listed;
}
