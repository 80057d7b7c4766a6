-- A finite set of motions, given by their numbers, that acts on the good ones of any type. Assumes nothing.
--     Acts Good gs after act               gs act by `act` on the good ones: they are all different, 0 is among them and changes nothing,
--                                          and `after g h`, which is among them with g and h, does h first and then g, and tells h from others
--     Member gs act x y                    y is a member of x: some g of gs carries x to y
--     least_of less gs act x               the least of x and the members act g x
--     stabiliser same gs act x             those of gs that leave x as it is, by the test `same` of equality
--     orbit less gs act x                  the different members of x, ascending
--     orbit_size less gs act x             how many they are
--     Equivalence Good gs act              being a member of is an equivalence
--     LeastLaws Good less gs act           the least of the members is one of them, none is less, and all members have the same
--     OrbitLaws Good less same gs act      the orbit holds the members; its size times the length of the stabiliser is the length of gs
--     ActionLaws good less same gs act     all three, of those that pass the test `good`
--     Actions X                            so it is wherever such a set acts, with a total order `less` and a test `same` of equality
use Rattle.std.specs.Prelude.{◌≡◌, ℕ, ◌*◌, Bool, true, List, map, length, Decides, filter, ◌≢◌}
use Rattle.std.specs.List.{best_of}
use Rattle.ordered.specs.Members.{In, NoRepeats}
use Rattle.ordered.specs.Orders.{StrictTotal, Ascending}
use Rattle.ordered.specs.Lookups.{sorted}

pub record Acts {X : Type 0} (Good : X → Type 0) (gs : List ℕ) (after : ℕ → ℕ → ℕ) (act : ℕ → X → X) : Type 0 where
  pub no_repeats : NoRepeats gs
  pub has_0 : In 0 gs
  pub closed : (g h : ℕ) → In g gs → In h gs → In (after g h) gs
  pub cancel : (g h k : ℕ) → In g gs → In h gs → In k gs → after g h ≡ after g k → h ≡ k
  pub good : (g : ℕ) (x : X) → In g gs → Good x → Good (act g x)
  pub act_0 : (x : X) → Good x → act 0 x ≡ x
  pub act_after : (g h : ℕ) (x : X) → In g gs → In h gs → Good x → act (after g h) x ≡ act g (act h x)

abbrev pub Member : {X : Type 0} → List ℕ → (ℕ → X → X) → X → X → Type 0
Member gs act x y = (g : ℕ) × In g gs × (y ≡ act g x)

abbrev pub least_of : {X : Type 0} → (X → X → Bool) → List ℕ → (ℕ → X → X) → X → X
least_of less gs act x = best_of less x (map (λ g. act g x) gs)

abbrev pub stabiliser : {X : Type 0} → (X → X → Bool) → List ℕ → (ℕ → X → X) → X → List ℕ
stabiliser same gs act x = filter (λ g. same (act g x) x) gs

abbrev pub orbit : {X : Type 0} → (X → X → Bool) → List ℕ → (ℕ → X → X) → X → List X
orbit less gs act x = sorted less (map (λ g. act g x) gs)

abbrev pub orbit_size : {X : Type 0} → (X → X → Bool) → List ℕ → (ℕ → X → X) → X → ℕ
orbit_size less gs act x = length (orbit less gs act x)

pub record Equivalence {X : Type 0} (Good : X → Type 0) (gs : List ℕ) (act : ℕ → X → X) : Type 0 where
  pub itself : (x : X) → Good x → Member gs act x x
  pub back : (x y : X) → Good x → Member gs act x y → Member gs act y x
  pub through : (x y z : X) → Good x → Member gs act x y → Member gs act y z → Member gs act x z

pub record LeastLaws {X : Type 0} (Good : X → Type 0) (less : X → X → Bool) (gs : List ℕ) (act : ℕ → X → X) : Type 0 where
  pub member : (x : X) → Good x → Member gs act x (least_of less gs act x)
  pub none_less : (x y : X) → Good x → Member gs act x y → less y (least_of less gs act x) ≢ true
  pub only : (x y : X) → Good x → Member gs act x y → ((z : X) → Member gs act x z → less z y ≢ true) → y ≡ least_of less gs act x
  pub all_same : (x y : X) → Good x → Member gs act x y → least_of less gs act y ≡ least_of less gs act x
  pub own_least : (x : X) → Good x → ((y : X) → Member gs act x y → less y x ≢ true) → least_of less gs act x ≡ x
  pub least_own : (x y : X) → Good x → least_of less gs act x ≡ x → Member gs act x y → less y x ≢ true

pub record OrbitLaws {X : Type 0} (Good : X → Type 0) (less same : X → X → Bool) (gs : List ℕ) (act : ℕ → X → X) : Type 0 where
  pub ascending : (x : X) → Ascending less (orbit less gs act x)
  pub members : (x y : X) → In y (orbit less gs act x) → Member gs act x y
  pub all_members : (x y : X) → Member gs act x y → In y (orbit less gs act x)
  pub times_stabiliser : (x : X) → Good x → orbit_size less gs act x * length (stabiliser same gs act x) ≡ length gs

pub record ActionLaws {X : Type 0} (good : X → Bool) (less same : X → X → Bool) (gs : List ℕ) (act : ℕ → X → X) : Type 0 where
  pub equivalence : Equivalence (λ x. good x ≡ true) gs act
  pub leasts : LeastLaws (λ x. good x ≡ true) less gs act
  pub orbits : OrbitLaws (λ x. good x ≡ true) less same gs act

abbrev pub Actions : Type 0 → Type 0
Actions X = (good : X → Bool) (less same : X → X → Bool) (gs : List ℕ) (after : ℕ → ℕ → ℕ) (act : ℕ → X → X) → StrictTotal less → ((x y : X) → Decides (same x y) (x ≡ y)) → Acts (λ x. good x ≡ true) gs after act → ActionLaws good less same gs act
