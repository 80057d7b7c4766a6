-- Lists with a fixed room. Assumes nothing.
--     filled_up n b xs      xs, and blanks b behind it, up to the room n
--     listed n xs           the list of the items xs, if the room n has them all
--     pushed n x xs         xs with x behind it, if there is room; and xs itself if not
-- Then the proofs that slots are filled up again from their items, and that lists of the same items are the same value, which no contract means.
use Rattle.std.specs.Prelude.{◌≡◌, ℕ, ◌-◌, ◌≤◌, cond, List, [], ◌∷◌, ◌++◌, length, take, drop, replicate, Ok, Err, Result, nat_lt, nat_le}
use Rattle.ordered.specs.declared.array_list.Full.{Full}
use Rattle.ordered.specs.declared.filler.Filler.{Ghosts as FillerMembers}
use Rattle.ordered.specs.declared.array_list.ArrayList.{ArrayList}
use Rattle.ordered.specs.Items.{items_of}
use Rattle.std.specs.declared.default.Default.{Ghosts as DefaultMembers}
use Rattle.std.specs.Coded.{Coded, Coded-set, coded_ℕ, coded_list, le_prop}
use Rattle.std.proofs.Common.{sym, ap, ◌∙◌, subst, arith}
use Rattle.std.proofs.lemmas.List.{length-take-le, take-append-drop}

abbrev pub filled_up : {X : Type 0} → ℕ → X → List X → List X
filled_up n b xs = xs ++ replicate (n - length xs) b

abbrev pub listed : {X : Type 0} → ℕ → List X → Result (List X) Full
listed n xs = cond (nat_le (length xs) n) (Ok xs) (Err (record {}))

abbrev pub pushed : {X : Type 0} → ℕ → X → List X → List X
pushed n x xs = cond (nat_lt (length xs) n) (xs ++ x ∷ []) xs

pub taken_length : {X : Type 0} (n count : ℕ) (slots : List X) → count ≤ n → length slots ≡ n → length (take count slots) ≡ count
taken_length n count slots few room = length-take-le count slots (omega arith)

pub filled_again : {X : Type 0} (n count : ℕ) (b : X) (slots : List X) → count ≤ n → length slots ≡ n → drop count slots ≡ replicate (n - count) b → filled_up n b (take count slots) ≡ slots
filled_again n count b slots few room blank =
    ap (λ k. take count slots ++ replicate (n - k) b) (taken_length n count slots few room)
    ∙ ap (λ r. take count slots ++ r) (sym blank)
    ∙ take-append-drop count slots

-- ---- lists of the same items are the same value
module _ {T : Type 0} (code : Coded T) (n : ℕ) (f : FillerMembers T) (d : DefaultMembers T) where
  abbrev list_of : (slots : List T) (count : ℕ) → count ≤ n → length slots ≡ n → drop count slots ≡ replicate (n - count) f.blank → ArrayList T n f d
  list_of slots count few space blank = record { slots = slots; count = count; few = few; space = space; blank = blank }

  abbrev Same : List T → ℕ → List T → ℕ → Type 0
  Same xs k ys l = (few : k ≤ n) (space : length xs ≡ n) (blank : drop k xs ≡ replicate (n - k) f.blank) (few' : l ≤ n) (space' : length ys ≡ n) (blank' : drop l ys ≡ replicate (n - l) f.blank) → list_of xs k few space blank ≡ list_of ys l few' space' blank'

  same_facts : (xs : List T) (k : ℕ) → Same xs k xs k
  same_facts xs k few space blank few' space' blank' = λ i. record { slots = xs; count = k; few = le_prop few few' i; space = Coded-set coded_ℕ _ _ space space' i; blank = Coded-set (coded_list code) _ _ blank blank' i }

  pub same_slots : (xs ys : List T) (k l : ℕ) → xs ≡ ys → k ≡ l → Same xs k ys l
  same_slots xs ys k l e q = subst (λ (zs : List T). Same xs k zs l) e (subst (λ (m : ℕ). Same xs k xs m) q (same_facts xs k))

  pub same_list : (x y : ArrayList T n f d) → items_of x ≡ items_of y → x ≡ y
  same_list x y e =
      same_slots x.slots y.slots x.count y.count
      (sym (filled_again n x.count f.blank x.slots x.few x.space x.blank) ∙ ap (filled_up n f.blank) e ∙ filled_again n y.count f.blank y.slots y.few y.space y.blank)
      (sym (taken_length n x.count x.slots x.few x.space) ∙ ap length e ∙ taken_length n y.count y.slots y.few y.space)
      x.few x.space x.blank y.few y.space y.blank
