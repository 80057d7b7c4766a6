-- The laws of classes, for every lattice and every closed set of its motions.
use Rattle.std.proofs.Common.{◌≡◌, ℕ, Bool, ltb, List, length, sym, ap, ◌∙◌, subst}
use Rattle.ordered.specs.Members.{In}
use Rattle.ordered.specs.Orders.{StrictTotal}
use Rattle.ordered.proofs.Ascending.{ascending_no_repeats}
use Rattle.ordered.proofs.Counting.{Equality}
use Rattle.ordered.proofs.Orders.{list_order, number_order, comparison_equality}
use Rattle.lattice.specs.declared.cell.Cell.{Cell}
use Rattle.lattice.specs.Cells.{origin, cell_less}
use Rattle.lattice.specs.Matrices.{Matrix}
use Rattle.lattice.specs.Lattices.{motion, number_after, Rules}
use Rattle.lattice.specs.Kinds.{Closed}
use Rattle.lattice.specs.Coordinates.{cell_order}
use Rattle.shapes.specs.Connected.{Connected}
use Rattle.shapes.specs.Positions.{neighbours, NormalPosition, ShortOf}
use Rattle.shapes.specs.Actions.{Acts}
use Rattle.shapes.specs.Classes.{same_cells, cells_less, moved, MemberOf, ClassLaws}
use Rattle.shapes.proofs.Actions.{equivalence}
use Rattle.shapes.proofs.Leasts.{least_laws}
use Rattle.shapes.proofs.Orbits.{orbit_laws}
use Rattle.shapes.proofs.Motions.{after_cancel}
use Rattle.shapes.proofs.Moved.{image_position, moved_0, moved_after, moved_length, moved_connected}
use Rattle.shapes.proofs.Reach.{reached_short}

-- ---- the order and the test of equality
pub cells_order : StrictTotal cells_less
cells_order = list_order cell_less cell_order

pub cells_equality : Equality same_cells
cells_equality = comparison_equality cell_less cell_order

module _ {name : List ℕ} {ds : List Cell} {ms : List Matrix} {os : ℕ → Bool} {gs : List ℕ} (R : Rules name ds ms os) (C : Closed ms gs) where
  pub motions_act : Acts NormalPosition gs (number_after ms) (moved ms)
  motions_act = record {
    no_repeats = ascending_no_repeats ltb number_order gs C.ascending;
    has_0 = C.has_0;
    closed = C.after;
    cancel = λ g h k p q r. after_cancel R g h k (C.within g p) (C.within h q) (C.within k r);
    good = λ g s p k. image_position (motion ms g) s k;
    act_0 = moved_0 R;
    act_after = λ g h s p q k. moved_after R g h (C.within g p) (C.within h q) s;
  }

  pub member_position : (s t : List Cell) → NormalPosition s → MemberOf ms gs s t → NormalPosition t
  member_position s t k u = subst NormalPosition (sym u.2) (image_position (motion ms u.0) s k)

  pub member_length : (s t : List Cell) → NormalPosition s → MemberOf ms gs s t → length t ≡ length s
  member_length s t k u = ap length u.2 ∙ moved_length R u.0 (C.within u.0 u.1) s k

  pub member_connected : (s t : List Cell) → MemberOf ms gs s t → Connected (neighbours ds) origin s → Connected (neighbours ds) origin t
  member_connected s t u con = subst (Connected (neighbours ds) origin) (sym u.2) (moved_connected R u.0 (C.within u.0 u.1) origin s con)

  pub member_reach : (s t : List Cell) → NormalPosition s → Connected (neighbours ds) origin s → MemberOf ms gs s t → (x : Cell) → In x t → ShortOf (length s) x
  member_reach s t k con u x h = subst (λ (n : ℕ). ShortOf n x) (member_length s t k u) (reached_short ds t R.directions_short x (member_connected s t u con x h))

pub classes_hold : (name : List ℕ) (ds : List Cell) (ms : List Matrix) (os : ℕ → Bool) (gs : List ℕ) → Rules name ds ms os → Closed ms gs → ClassLaws ds ms gs
classes_hold name ds ms os gs R C =
    let A = motions_act R C in
    let E = equivalence NormalPosition gs (number_after ms) (moved ms) A in
    let L = least_laws NormalPosition gs (number_after ms) (moved ms) A cells_less cells_order in
    let O = orbit_laws NormalPosition gs (number_after ms) (moved ms) A same_cells cells_equality cells_less cells_order in
    record {
      itself = E.itself;
      back = E.back;
      through = E.through;
      least_is_member = L.member;
      none_less = L.none_less;
      only_least = L.only;
      same_least = L.all_same;
      member_position = member_position R C;
      member_length = member_length R C;
      member_connected = λ s t k u con. member_connected R C s t u con;
      orbit_ascending = O.ascending;
      orbit_members = O.members;
      members_in_orbit = O.all_members;
      orbit_times_stabiliser = O.times_stabiliser;
      reach = λ s k con x h. reached_short ds s R.directions_short x (con x h);
      member_reach = member_reach R C;
    }
