-- Sorting a list: what is in it then, its order and length, and when two lists are sorted alike.
use Rattle.std.proofs.Common.{◌≡◌, ℕ, ◌+◌, ◌<◌, ◌≤◌, Bool, true, ◌⊎◌, List, [], ◌∷◌, ◌++◌, map, length, get_or, take, sym, ap, ◌∙◌, inl, inr, le_antisymm}
use Rattle.std.proofs.lemmas.List.{take_more}
use Rattle.ordered.specs.Members.{In, NoRepeats}
use Rattle.ordered.specs.Orders.{StrictTotal, Ascending}
use Rattle.ordered.specs.Lookups.{inserted, sorted}
use Rattle.ordered.proofs.Members.{in_cast, in_map, from_map, in_append_left, in_append_right, from_append}
use Rattle.ordered.proofs.Counting.{fits}
use Rattle.ordered.proofs.Orders.{neither, same_by}
use Rattle.ordered.proofs.Ascending.{ascending_map, ascending_no_repeats, ascending_same, inserted_out, inserted_in, inserted_ascending}

module _ {X : Type 0} (less : X → X → Bool) (O : StrictTotal less) where
  pub sorted_out : (xs : List X) (z : X) → In z (sorted less xs) → In z xs
  sorted_out [] z h = h
  sorted_out (x ∷ xs) z h = go (inserted_out less O x (sorted less xs) z h) (sorted_out xs z)
    where
      go : In z (x ∷ sorted less xs) → (In z (sorted less xs) → In z xs) → In z (x ∷ xs)
      go (inl e) r = inl e
      go (inr q) r = inr (r q)

  pub sorted_in : (xs : List X) (z : X) → In z xs → In z (sorted less xs)
  sorted_in [] z h = h
  sorted_in (x ∷ xs) z (inl e) = inserted_in less O x (sorted less xs) z (inl e)
  sorted_in (x ∷ xs) z (inr h) = inserted_in less O x (sorted less xs) z (inr (sorted_in xs z h))

  pub sorted_ascending : (xs : List X) → Ascending less (sorted less xs)
  sorted_ascending [] = tt
  sorted_ascending (x ∷ xs) = inserted_ascending less O x (sorted less xs) (sorted_ascending xs)

  pub sorted_no_repeats : (xs : List X) → NoRepeats (sorted less xs)
  sorted_no_repeats xs = ascending_no_repeats less O (sorted less xs) (sorted_ascending xs)

  -- the one ascending list with the items of xs
  pub sorted_only : (xs ys : List X) → Ascending less ys → ((z : X) → In z xs → In z ys) → ((z : X) → In z ys → In z xs) → sorted less xs ≡ ys
  sorted_only xs ys a f g = ascending_same less O (sorted less xs) ys (sorted_ascending xs) a (λ z q. f z (sorted_out xs z q)) (λ z q. sorted_in xs z (g z q))

  pub sorted_same : (xs ys : List X) → ((z : X) → In z xs → In z ys) → ((z : X) → In z ys → In z xs) → sorted less xs ≡ sorted less ys
  sorted_same xs ys f g = sorted_only xs (sorted less ys) (sorted_ascending ys) (λ z q. sorted_in ys z (f z q)) (λ z q. g z (sorted_out ys z q))

  pub sorted_itself : (xs : List X) → Ascending less xs → sorted less xs ≡ xs
  sorted_itself xs a = sorted_only xs xs a (λ z q. q) (λ z q. q)

  pub length_sorted_le : (xs : List X) → length (sorted less xs) ≤ length xs
  length_sorted_le xs = fits (neither less) (same_by less O) (sorted less xs) xs (sorted_no_repeats xs) (sorted_out xs)

  pub sorted_length : (xs : List X) → NoRepeats xs → length (sorted less xs) ≡ length xs
  sorted_length xs a = le_antisymm (length_sorted_le xs) (fits (neither less) (same_by less O) xs (sorted less xs) a (sorted_in xs))

  -- a function that keeps the order
  pub sorted_map : (f : X → X) → ((x y : X) → less x y ≡ true → less (f x) (f y) ≡ true) → (xs : List X) → sorted less (map f xs) ≡ map f (sorted less xs)
  sorted_map f mono xs =
      sorted_only (map f xs) (map f (sorted less xs)) (ascending_map less less f mono (sorted less xs) (sorted_ascending xs))
      (λ z q. let t = from_map f xs z q in in_cast (map f (sorted less xs)) (sym t.2) (in_map f (sorted less xs) t.0 (sorted_in xs t.0 t.1)))
      (λ z q. let t = from_map f (sorted less xs) z q in in_cast (map f xs) (sym t.2) (in_map f xs t.0 (sorted_out xs t.0 t.1)))

  -- ---- one more item at the end
  pub sorted_push : (xs : List X) (x : X) → sorted less (xs ++ x ∷ []) ≡ inserted less x (sorted less xs)
  sorted_push xs x = sorted_only (xs ++ x ∷ []) (inserted less x (sorted less xs)) (inserted_ascending less O x (sorted less xs) (sorted_ascending xs)) into out
    where
      into : (z : X) → In z (xs ++ x ∷ []) → In z (inserted less x (sorted less xs))
      into z q = go (from_append xs (x ∷ []) z q)
        where
          go : In z xs ⊎ In z (x ∷ []) → In z (inserted less x (sorted less xs))
          go (inl h) = inserted_in less O x (sorted less xs) z (inr (sorted_in xs z h))
          go (inr (inl e)) = inserted_in less O x (sorted less xs) z (inl e)
          go (inr (inr h)) = absurd h

      out : (z : X) → In z (inserted less x (sorted less xs)) → In z (xs ++ x ∷ [])
      out z q = go (inserted_out less O x (sorted less xs) z q)
        where
          go : In z (x ∷ sorted less xs) → In z (xs ++ x ∷ [])
          go (inl e) = in_append_right xs (x ∷ []) z (inl e)
          go (inr h) = in_append_left xs (x ∷ []) z (sorted_out xs z h)

  pub sorted_more : (xs : List X) (i : ℕ) (d : X) → i < length xs → sorted less (take (i + 1) xs) ≡ inserted less (get_or xs i d) (sorted less (take i xs))
  sorted_more xs i d h = ap (sorted less) (take_more xs i d h) ∙ sorted_push (take i xs) (get_or xs i d)
