-- Classes of shapes: lists of cells in normal position that motions carry to each other, those of ms with the numbers gs. Assumes nothing.
--     same_cells s t           the test that s and t are the same list
--     cells_less s t           s comes before t: the lesser cell at the first difference decides, and a beginning comes before the whole
--     moved ms g s             the member of s under motion g: its image, in normal position
--     MemberOf ms gs s t       t is a member of s
--     least_member ms gs s     the least of the members of s
--     stabiliser_of ms gs s    the motions that leave s as it is
--     orbit_of ms gs s         the different members of s, ascending
--     orbit_size_of ms gs s    how many they are
--     ClassLaws ds ms gs       what holds of classes, with the directions ds
use Rattle.std.specs.Prelude.{◌≡◌, ℕ, ◌*◌, Bool, true, List, map, length, ◌≢◌}
use Rattle.std.specs.Ordering.{is_eq}
use Rattle.ordered.specs.Members.{In}
use Rattle.ordered.specs.Orders.{Ascending, comparison, list_less}
use Rattle.lattice.specs.declared.cell.Cell.{Cell}
use Rattle.lattice.specs.Cells.{origin, cell_less}
use Rattle.lattice.specs.Matrices.{Matrix, image}
use Rattle.lattice.specs.Lattices.{motion}
use Rattle.shapes.specs.Connected.{Connected}
use Rattle.shapes.specs.Positions.{neighbours, normal, NormalPosition, ShortOf}
use Rattle.shapes.specs.Actions.{Member, least_of, stabiliser, orbit}

abbrev pub same_cells : List Cell → List Cell → Bool
same_cells s t = is_eq (comparison cell_less s t)

abbrev pub cells_less : List Cell → List Cell → Bool
cells_less = list_less cell_less

abbrev pub moved : List Matrix → ℕ → List Cell → List Cell
moved ms g s = normal (map (image (motion ms g)) s)

abbrev pub MemberOf : List Matrix → List ℕ → List Cell → List Cell → Type 0
MemberOf ms gs s t = Member gs (moved ms) s t

abbrev pub least_member : List Matrix → List ℕ → List Cell → List Cell
least_member ms gs s = least_of cells_less gs (moved ms) s

abbrev pub stabiliser_of : List Matrix → List ℕ → List Cell → List ℕ
stabiliser_of ms gs s = stabiliser same_cells gs (moved ms) s

abbrev pub orbit_of : List Matrix → List ℕ → List Cell → List (List Cell)
orbit_of ms gs s = orbit cells_less gs (moved ms) s

abbrev pub orbit_size_of : List Matrix → List ℕ → List Cell → ℕ
orbit_size_of ms gs s = length (orbit_of ms gs s)

pub record ClassLaws (ds : List Cell) (ms : List Matrix) (gs : List ℕ) : Type 0 where
  -- Being a member of is an equivalence.
  pub itself : (s : List Cell) → NormalPosition s → MemberOf ms gs s s
  pub back : (s t : List Cell) → NormalPosition s → MemberOf ms gs s t → MemberOf ms gs t s
  pub through : (s t u : List Cell) → NormalPosition s → MemberOf ms gs s t → MemberOf ms gs t u → MemberOf ms gs s u
  -- Exactly one member has none less than it, the least member, and all members have the same one.
  pub least_is_member : (s : List Cell) → NormalPosition s → MemberOf ms gs s (least_member ms gs s)
  pub none_less : (s t : List Cell) → NormalPosition s → MemberOf ms gs s t → cells_less t (least_member ms gs s) ≢ true
  pub only_least : (s t : List Cell) → NormalPosition s → MemberOf ms gs s t → ((u : List Cell) → MemberOf ms gs s u → cells_less u t ≢ true) → t ≡ least_member ms gs s
  pub same_least : (s t : List Cell) → NormalPosition s → MemberOf ms gs s t → least_member ms gs t ≡ least_member ms gs s
  -- A member is in normal position, as long as the shape, and connected if the shape is.
  pub member_position : (s t : List Cell) → NormalPosition s → MemberOf ms gs s t → NormalPosition t
  pub member_length : (s t : List Cell) → NormalPosition s → MemberOf ms gs s t → length t ≡ length s
  pub member_connected : (s t : List Cell) → NormalPosition s → MemberOf ms gs s t → Connected (neighbours ds) origin s → Connected (neighbours ds) origin t
  -- The orbit holds the members, each once; its size times the length of the stabiliser is the length of gs.
  pub orbit_ascending : (s : List Cell) → Ascending cells_less (orbit_of ms gs s)
  pub orbit_members : (s t : List Cell) → In t (orbit_of ms gs s) → MemberOf ms gs s t
  pub members_in_orbit : (s t : List Cell) → MemberOf ms gs s t → In t (orbit_of ms gs s)
  pub orbit_times_stabiliser : (s : List Cell) → NormalPosition s → orbit_size_of ms gs s * length (stabiliser_of ms gs s) ≡ length gs
  -- No coordinate of a connected shape, or of a member of it, reaches the number of its cells in size.
  pub reach : (s : List Cell) → NormalPosition s → Connected (neighbours ds) origin s → (x : Cell) → In x s → ShortOf (length s) x
  pub member_reach : (s t : List Cell) → NormalPosition s → Connected (neighbours ds) origin s → MemberOf ms gs s t → (x : Cell) → In x t → ShortOf (length s) x
