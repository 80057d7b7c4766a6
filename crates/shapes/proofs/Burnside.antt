-- The number of classes in a list closed under the motions: times the motions, it is the shapes that each motion leaves as they are, summed.
--     OneOfEach gs act xs rs       rs has exactly one of each class in xs
use Rattle.std.proofs.Common.{◌≡◌, ℕ, ◌*◌, ◌<◌, ◌≤◌, Bool, cond, List, [], ◌∷◌, map, length, filter, sym, ◌∙◌, subst, le_antisymm, arith}
use native.Mathlib.Nat.{eq_of_mul-eq-mul_left}
use lib.ListN.{length-map}
use Rattle.ordered.specs.Members.{In, NoRepeats}
use Rattle.ordered.specs.Orders.{StrictTotal}
use Rattle.ordered.proofs.Members.{in_cast, in_map, from_map, in_kept, from_kept, no_repeats_map, no_repeats_kept}
use Rattle.ordered.proofs.Counting.{Equality, total, total_same, total_const, total_swap, length_kept, fits, fibres_total}
use Rattle.shapes.specs.Actions.{Acts, Member, least_of, stabiliser}
use Rattle.shapes.proofs.Actions.{member_back, member_through}
use Rattle.shapes.proofs.Leasts.{least_member, least_same}
use Rattle.shapes.proofs.Orbits.{orbit_stabiliser}

pub record OneOfEach {X : Type 0} (gs : List ℕ) (act : ℕ → X → X) (xs rs : List X) : Type 0 where
  pub no_repeats : NoRepeats rs
  pub among : (r : X) → In r rs → In r xs
  pub one : (r q : X) → In r rs → In q rs → Member gs act r q → r ≡ q
  pub each : (x : X) → In x xs → (r : X) × In r rs × Member gs act r x

module _ {X : Type 0} (Good : X → Type 0) (gs : List ℕ) (after : ℕ → ℕ → ℕ) (act : ℕ → X → X) (A : Acts Good gs after act) (less : X → X → Bool) (O : StrictTotal less) (same : X → X → Bool) (eq : Equality same) (xs : List X) (a : NoRepeats xs) (goods : (x : X) → In x xs → Good x) (stays : (g : ℕ) (x : X) → In g gs → In x xs → In (act g x) xs) where
  abbrev least : X → X
  least x = least_of less gs act x

  least_in : (x : X) → In x xs → Member gs act x (least x)
  least_in x p = least_member Good gs after act A less O x (goods x p)

  -- the class of r, out of xs
  class : X → List X
  class r = filter (λ x. same (least x) r) xs

  -- those that are their own least member
  abbrev pub leasts : List X
  leasts = filter (λ x. same (least x) x) xs

  class_out : (r y : X) → In y (class r) → In y xs × (least y ≡ r)
  unfolding class
  class_out r y q = let u = from_kept (λ x. same (least x) r) xs y q in (u.0, (eq (least y) r).0 u.1)

  leasts_out : (r : X) → In r leasts → In r xs × (least r ≡ r)
  leasts_out r q = let u = from_kept (λ x. same (least x) x) xs r q in (u.0, (eq (least r) r).0 u.1)

  stays_member : (x y : X) → In x xs → Member gs act x y → In y xs
  stays_member x y p t = in_cast xs (sym t.2) (stays t.0 x t.1 p)

  -- each of a class has the whole of it for its members
  class_of : (r y z : X) → In y (class r) → In z (class r) → Member gs act y z
  class_of r y z p q =
      let u = class_out r y p in
      let v = class_out r z q in
      member_through Good gs after act A y r z (goods y u.0) (subst (Member gs act y) u.1 (least_in y u.0))
      (subst (λ (w : X). Member gs act w z) v.1 (member_back Good gs after act A z (least z) (goods z v.0) (least_in z v.0)))

  class_all : (r y z : X) → In y (class r) → Member gs act y z → In z (class r)
  unfolding class
  class_all r y z p t =
      let u = class_out r y p in
      in_kept (λ x. same (least x) r) xs z (stays_member y z u.0 t) ((eq (least z) r).1 (least_same Good gs after act A less O y z (goods y u.0) t ∙ u.1))

  class_size : (r y : X) → In y (class r) → length (class r) * length (stabiliser same gs act y) ≡ length gs
  unfolding class
  class_size r y p = orbit_stabiliser Good gs after act A same eq y (class r) (goods y (class_out r y p).0) (no_repeats_kept (λ x. same (least x) r) xs a) (λ z q. class_of r y z p q) (λ z t. class_all r y z p t)

  some : (y : X) (ys : List X) → In y ys → 0 < length ys
  some y [] h = absurd h
  some y (z ∷ zs) h = omega arith

  -- the stabilisers of a class add up to the motions
  class_sum : (r : X) → In r leasts → total (λ y. length (stabiliser same gs act y)) (class r) ≡ length gs
  unfolding class
  class_sum r q =
      let u = leasts_out r q in
      let here = in_kept (λ x. same (least x) r) xs r u.0 ((eq (least r) r).1 u.1) in
      let s = length (stabiliser same gs act r) in
      total_same (λ y. length (stabiliser same gs act y)) (λ y. s) (class r) (λ y p. eq_of_mul-eq-mul_left (length (class r)) (some r (class r) here) (length (stabiliser same gs act y)) s (class_size r y p ∙ sym (class_size r r here)))
      ∙ total_const s (class r)
      ∙ class_size r r here

  leasts_in : (x : X) → In x xs → In (least x) leasts
  leasts_in x p =
      let l = least_in x p in
      in_kept (λ y. same (least y) y) xs (least x) (stays_member x (least x) p l) ((eq (least (least x)) (least x)).1 (least_same Good gs after act A less O x (least x) (goods x p) l))

  pub burnside : length leasts * length gs ≡ total (λ m. length (filter (λ x. same (act m x) x) xs)) gs
  unfolding class
  burnside =
      let w : X → ℕ = λ y. length (stabiliser same gs act y) in
      let fixed = total_same (λ m. length (filter (λ x. same (act m x) x) xs)) (λ m. total (λ x. cond (same (act m x) x) 1 0) xs) gs (λ m p. length_kept (λ x. same (act m x) x) xs) in
      let stabs = total_same w (λ x. total (λ m. cond (same (act m x) x) 1 0) gs) xs (λ x p. length_kept (λ m. same (act m x) x) gs) in
      let by = fibres_total same eq (least_of less gs act) w xs leasts (no_repeats_kept (λ x. same (least x) x) xs a) leasts_in in
      let each = total_same (λ r. total w (class r)) (λ r. length gs) leasts class_sum in
      sym (fixed ∙ total_swap (λ m x. cond (same (act m x) x) 1 0) gs xs ∙ sym stabs ∙ by ∙ each ∙ total_const (length gs) leasts)

  -- any choice of one of each class is as long
  pub class_count : (rs : List X) → OneOfEach gs act xs rs → length rs ≡ length leasts
  class_count rs R = le_antisymm up down
    where
      good : (r : X) → In r rs → Good r
      good r p = goods r (R.among r p)

      to_least : (r : X) → In r rs → Member gs act r (least r)
      to_least r p = least_in r (R.among r p)

      up : length rs ≤ length leasts
      up =
          omega (
            arith,
            length-map rs (least_of less gs act),
            fits same eq (map (least_of less gs act) rs) leasts
                (no_repeats_map (least_of less gs act) rs R.no_repeats (λ r q p p' e. R.one r q p p' (member_through Good gs after act A r (least q) q (good r p) (subst (Member gs act r) e (to_least r p)) (member_back Good gs after act A q (least q) (good q p') (to_least q p')))))
                (λ z h. let t = from_map (least_of less gs act) rs z h in in_cast leasts (sym t.2) (leasts_in t.0 (R.among t.0 t.1))),
          )

      down : length leasts ≤ length rs
      down =
          omega (
            arith,
            length-map rs (least_of less gs act),
            fits same eq leasts (map (least_of less gs act) rs) (no_repeats_kept (λ x. same (least x) x) xs a)
                (λ z h. let u = leasts_out z h in let t = R.each z u.0 in in_cast (map (least_of less gs act) rs) (sym (least_same Good gs after act A less O t.0 z (good t.0 t.1) t.2) ∙ u.1) (in_map (least_of less gs act) rs t.0 t.1)),
          )
