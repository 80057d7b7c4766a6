-- Ways through a set: put behind one another, turned round, and carried to another set.
use Rattle.std.proofs.Common.{List, sym, refl, ap, subst}
use Rattle.ordered.specs.Members.{In}
use Rattle.ordered.proofs.Members.{in_cast}
use Rattle.shapes.specs.Connected.{Reached, at_start, onward, Connected}

module _ {X : Type 0} (near : X → List X) where
  pub reached_in : (s : List X) {start x : X} → Reached near start s x → In x s
  reached_in s (at_start e h) = h
  reached_in s (onward k n h) = h

  pub reached_start : (s : List X) {start x : X} → Reached near start s x → In start s
  reached_start s (at_start e h) = in_cast s e h
  reached_start s (onward k n h) = reached_start s k

  pub reached_through : (s : List X) {start x y : X} → Reached near start s x → Reached near x s y → Reached near start s y
  reached_through s {start = start} l (at_start e h) = subst (Reached near start s) (sym e) l
  reached_through s l (onward k n h) = onward (reached_through s l k) n h

  -- where neighbours are so both ways
  pub reached_back : (s : List X) {start x : X} → ((x y : X) → In y (near x) → In x (near y)) → Reached near start s x → Reached near x s start
  reached_back s both (at_start e h) = at_start (sym e) (in_cast s e h)
  reached_back s both (onward {x = x} {y = y} k n h) = reached_through s (onward (at_start refl h) (both x y n) (reached_in s k)) (reached_back s both k)

  -- by a function that carries neighbours to neighbours
  pub reached_carried : (f : X → X) (s t : List X) → ((x : X) → In x s → In (f x) t) → ((x y : X) → In y (near x) → In (f y) (near (f x))) → {start x : X} → Reached near start s x → Reached near (f start) t (f x)
  reached_carried f s t into keeps (at_start {x = x} e h) = at_start (ap f e) (into x h)
  reached_carried f s t into keeps (onward {x = x} {y = y} k n h) = onward (reached_carried f s t into keeps k) (keeps x y n) (into y h)

  -- a connected set is so from each of its cells
  pub connected_from : (start other : X) (s : List X) → ((x y : X) → In y (near x) → In x (near y)) → In other s → Connected near start s → Connected near other s
  connected_from start other s both h con x q = reached_through s (reached_back s both (con other h)) (con x q)
