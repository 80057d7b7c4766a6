-- Texts in a row, and a cell's text.
use Rattle.std.proofs.Common.{◌≡◌, ℕ, ◌+◌, ◌<◌, ◌≤◌, List, [], ◌∷◌, ◌++◌, map, length, get_or, take, sym, refl, ap, ◌∙◌, ap₂, append_assoc, append-nil, arith, length-append}
use Rattle.std.specs.List.{flat_map, join_with_byte, sum_by}
use Rattle.std.specs.Fmt.{signed_decimal}
use Rattle.std.proofs.lemmas.List.{take_more}
use Rattle.std.proofs.lemmas.List.Folds.{flat_map-map, length-flat_map-take}
use Rattle.std.proofs.lemmas.List.Sums.{sum_by-cons}
use Rattle.std.proofs.lemmas.Grind.{flat_map-append}
use Rattle.lattice.specs.declared.cell.Cell.{Cell}
use Rattle.catalogue.specs.Text.{cell_text}
use Rattle.catalogue.specs.Writers.{led}

-- how long a cell's text is
pub length_cell : (x : Cell) → length (cell_text x) ≡ length (signed_decimal x.a) + (1 + length (signed_decimal x.b)) + (1 + length (signed_decimal x.c))
length_cell x = simp length-append (omega arith)

module _ {X : Type 0} (f : X → List ℕ) (m : ℕ) where
  spaced : (xs : List X) → length (flat_map (λ u. 32 ∷ u) (map f xs)) ≡ length xs + sum_by (λ y. length (f y)) xs
  spaced [] = refl
  spaced (x ∷ xs) = omega (arith, length-append (32 ∷ f x) (flat_map (λ u. 32 ∷ u) (map f xs)), sum_by-cons (λ y. length (f y)) x xs, spaced xs)

  -- how long texts in a row are
  pub length_led : (xs : List X) → length (led m (map f xs)) ≡ length xs + sum_by (λ x. length (f x)) xs
  length_led [] = refl
  length_led (x ∷ xs) =
      let tail : length (flat_map (λ u. 32 ∷ u) (map f xs)) ≡ length xs + sum_by (λ y. length (f y)) xs = spaced xs in
      omega (arith, length-append (m ∷ f x) (flat_map (λ u. 32 ∷ u) (map f xs)), tail, sum_by-cons (λ y. length (f y)) x xs)

  module _ (x : X) (xs : List X) (i : ℕ) (d : X) (h : i < length xs) where
    -- one text more
    pub led_more : led m (map f (x ∷ take (i + 1) xs)) ≡ led m (map f (x ∷ take i xs)) ++ (32 ∷ f (get_or xs i d))
    led_more =
        let y = get_or xs i d in
        let so_far = take i xs in
        let spaced = flat_map-map (λ u. 32 ∷ u) f in
        let one_more = ap (flat_map (λ z. 32 ∷ f z)) (take_more xs i d h) ∙ flat_map-append (λ z. 32 ∷ f z) so_far (y ∷ []) in
        ap (λ r. (m ∷ f x) ++ r) (spaced (take (i + 1) xs) ∙ one_more ∙ ap₂ (λ p q. p ++ q) (sym (spaced so_far)) (append-nil (32 ∷ f y)))
        ∙ sym (append_assoc (m ∷ f x) (flat_map (λ u. 32 ∷ u) (map f so_far)) (32 ∷ f y))

    -- there is room for it
    pub led_room : length (led m (map f (x ∷ take i xs))) + (1 + length (f (get_or xs i d))) ≤ length (led m (map f (x ∷ xs)))
    led_room =
        let spaced : (ys : List X) → length (flat_map (λ u. 32 ∷ u) (map f ys)) ≡ length (flat_map (λ y. 32 ∷ f y) ys) = λ ys. ap length (flat_map-map (λ u. 32 ∷ u) f ys) in
        let row : (ys : List X) → length (led m (map f (x ∷ ys))) ≡ 1 + length (f x) + length (flat_map (λ y. 32 ∷ f y) ys) = λ ys. length-append (m ∷ f x) (flat_map (λ u. 32 ∷ u) (map f ys)) ∙ omega (arith, spaced ys) in
        omega (arith, length-flat_map-take (λ y. 32 ∷ f y) xs i d h, row (take i xs), row xs)

-- texts behind a tab are the tab and the texts, parted by spaces
pub led_is : (ts : List (List ℕ)) → 0 < length ts → led 9 ts ≡ 9 ∷ join_with_byte 32 ts
led_is [] h = absurd (omega arith)
led_is (t ∷ ts) h = ap (λ r. 9 ∷ r) (go t ts)
  where
    go : (t : List ℕ) (ts : List (List ℕ)) → t ++ flat_map (λ u. 32 ∷ u) ts ≡ join_with_byte 32 (t ∷ ts)
    go t [] = append-nil t
    go t (u ∷ us) = ap (λ r. t ++ (32 ∷ r)) (go u us)
