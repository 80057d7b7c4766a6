-- Normal position: when two lists have the same, and what a list in normal position is.
use Rattle.std.proofs.Common.{◌≡◌, ◌<◌, List, [], ◌∷◌, map, length, sym, refl, ap, ◌∙◌, inl, map-id, arith}
use mathlib.Core.Path.{fun_ext}
use mathlib.Core.List.{map-map}
use lib.ListN.{length-map}
use Rattle.ordered.specs.Members.{In, NoRepeats}
use Rattle.ordered.specs.Orders.{Ascending}
use Rattle.ordered.specs.Lookups.{sorted}
use Rattle.ordered.proofs.Ascending.{ascending_map, ascending_no_repeats}
use Rattle.ordered.proofs.Sorted.{sorted_in, sorted_ascending, sorted_same, sorted_itself, sorted_length, sorted_map}
use Rattle.lattice.specs.declared.cell.Cell.{Cell}
use Rattle.lattice.specs.Cells.{origin, cell_less, minus}
use Rattle.lattice.specs.Coordinates.{cell_order}
use Rattle.shapes.specs.Positions.{shifted, normal, FromOrigin, NormalPosition}
use Rattle.shapes.proofs.Sums.{cell_less_minus, minus_origin, minus_self, minus_minus}

-- ---- map
pub map_same : {X Y : Type 0} (f g : X → Y) (xs : List X) → ((x : X) → f x ≡ g x) → map f xs ≡ map g xs
map_same f g xs h = ap (λ k. map k xs) (fun_ext h)

pub map_itself : {X : Type 0} (f : X → X) (xs : List X) → ((x : X) → f x ≡ x) → map f xs ≡ xs
map_itself f xs h = map_same f (λ x. x) xs h ∙ map-id xs

-- ---- shifted
pub length_shifted : (s : List Cell) → length (shifted s) ≡ length s
length_shifted [] = refl
length_shifted (x ∷ xs) = length-map (x ∷ xs) (λ y. minus y x)

shifted_minus : (d : Cell) (s : List Cell) → shifted (map (λ x. minus x d) s) ≡ shifted s
shifted_minus d [] = refl
shifted_minus d (x ∷ xs) = map-map (λ y. minus y (minus x d)) (λ y. minus y d) (x ∷ xs) ∙ map_same (λ y. minus (minus y d) (minus x d)) (λ y. minus y x) (x ∷ xs) (λ y. minus_minus y x d)

shifted_itself : (s : List Cell) → FromOrigin s → shifted s ≡ s
shifted_itself [] b = refl
shifted_itself (x ∷ xs) b = map_itself (λ y. minus y x) (x ∷ xs) (λ y. ap (minus y) b ∙ minus_origin y)

pub shifted_position : (s : List Cell) → Ascending cell_less s → 0 < length s → NormalPosition (shifted s)
shifted_position [] a h = absurd (omega arith)
shifted_position (x ∷ xs) a h = record { ascending = ascending_map cell_less cell_less (λ y. minus y x) (λ y z l. cell_less_minus y z x ∙ l) (x ∷ xs) a; from_origin = minus_self x }

-- ---- normal
-- where a list stands does not count
pub normal_minus : (d : Cell) (s : List Cell) → normal (map (λ x. minus x d) s) ≡ normal s
normal_minus d s = ap shifted (sorted_map cell_less cell_order (λ x. minus x d) (λ x y l. cell_less_minus x y d ∙ l) s) ∙ shifted_minus d (sorted cell_less s)

-- nor does the order of its cells
pub normal_same : (s t : List Cell) → ((z : Cell) → In z s → In z t) → ((z : Cell) → In z t → In z s) → normal s ≡ normal t
normal_same s t f g = ap shifted (sorted_same cell_less cell_order s t f g)

pub normal_itself : (s : List Cell) → NormalPosition s → normal s ≡ s
normal_itself s p = ap shifted (sorted_itself cell_less cell_order s p.ascending) ∙ shifted_itself s p.from_origin

pub normal_length : (s : List Cell) → NoRepeats s → length (normal s) ≡ length s
normal_length s a = length_shifted (sorted cell_less s) ∙ sorted_length cell_less cell_order s a

some : (s : List Cell) (z : Cell) → In z s → 0 < length s
some [] z h = absurd h
some (x ∷ xs) z h = omega arith

pub normal_position : (s : List Cell) (z : Cell) → In z s → NormalPosition (normal s)
normal_position s z h = shifted_position (sorted cell_less s) (sorted_ascending cell_less cell_order s) (some (sorted cell_less s) z (sorted_in cell_less cell_order s z h))

first_in : (s : List Cell) → 0 < length s → (z : Cell) × In z s
first_in [] h = absurd (omega arith)
first_in (x ∷ xs) h = (x, inl refl)

pub normal_placed : (s : List Cell) → 0 < length s → NoRepeats s → NormalPosition (normal s) × (length (normal s) ≡ length s)
normal_placed s h a = let t = first_in s h in (normal_position s t.0 t.1, normal_length s a)

-- ---- a list in normal position
pub origin_in : (s : List Cell) → NormalPosition s → In origin s
origin_in [] p = absurd p.from_origin
origin_in (x ∷ xs) p = inl (sym p.from_origin)

pub position_no_repeats : (s : List Cell) → NormalPosition s → NoRepeats s
position_no_repeats s p = ascending_no_repeats cell_less cell_order s p.ascending
