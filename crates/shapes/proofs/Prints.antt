-- Texts that may be none, one after the other, and writing them.
use Rattle.std.proofs.Common.{◌≡◌, ℕ, ◌+◌, ◌<◌, List, [], ◌∷◌, ◌++◌, length, get_or, take, Some, None, Option, Result, sym, refl, ap, ◌∙◌, append_assoc, append-nil}
use Rattle.std.specs.Option.{IfSome}
use Rattle.std.specs.Fmt.{◌++?◌, DisplaysOnOk, HasWritten, IsPlainFormatter}
use Rattle.std.specs.declared.fmt.Formatter.{Formatter}
use Rattle.std.specs.declared.fmt.Error.{Error}
use Rattle.std.specs.Result.{IsOk}
use Rattle.std.proofs.lemmas.Grind.{put_two}
use Rattle.std.proofs.lemmas.List.{take_more}
use Rattle.shapes.specs.Prints.{behind_spaces}

together : (a b c : Option (List ℕ)) → (a ++? b) ++? c ≡ a ++? (b ++? c)
together None b c = refl
together (Some x) None c = refl
together (Some x) (Some y) None = refl
together (Some x) (Some y) (Some z) = ap Some (append_assoc x y z)

nothing_more : (a : Option (List ℕ)) → a ++? Some [] ≡ Some [] ++? a
nothing_more None = refl
nothing_more (Some x) = ap Some (append-nil x)

module _ {X : Type 0} (text : X → Option (List ℕ)) where
  pushed_text : (ys : List X) (x : X) → behind_spaces text (ys ++ x ∷ []) ≡ behind_spaces text ys ++? (Some (32 ∷ []) ++? text x)
  pushed_text [] x = nothing_more (Some (32 ∷ []) ++? text x)
  pushed_text (y ∷ ys) x = ap (λ o. (Some (32 ∷ []) ++? text y) ++? o) (pushed_text ys x) ∙ sym (together (Some (32 ∷ []) ++? text y) (behind_spaces text ys) (Some (32 ∷ []) ++? text x))

  pub one_text_more : (xs : List X) (i : ℕ) (d : X) → i < length xs → behind_spaces text (take (i + 1) xs) ≡ behind_spaces text (take i xs) ++? (Some (32 ∷ []) ++? text (get_or xs i d))
  one_text_more xs i d l = ap (behind_spaces text) (take_more xs i d l) ∙ pushed_text (take i xs) (get_or xs i d)

-- a text, and then another
pub both_written : {W : Type 0} (took : W → List ℕ → W → Type 0) (f g h : Formatter W) (a b : Option (List ℕ)) → IfSome a (λ bs. HasWritten took f bs g) → (IsPlainFormatter g → IfSome b (λ bs. HasWritten took g bs h)) → IfSome (a ++? b) (λ bs. HasWritten took f bs h)
both_written took f g h None b p q = tt
both_written took f g h (Some x) None p q = tt
both_written took f g h (Some x) (Some y) p q = put_two took f g h x y (x ++ y) p (q p.plain) refl

pub written : {W : Type 0} (took : W → List ℕ → W → Type 0) (f g : Formatter W) (r : Result (Unit {0}) Error) (o : Option (List ℕ)) → DisplaysOnOk took f r o g → IsPlainFormatter f → IsOk r → IfSome o (λ bs. HasWritten took f bs g)
written took f g r None w p k = tt
written took f g r (Some x) w p k = w p k

pub displayed : {W : Type 0} (took : W → List ℕ → W → Type 0) (f g : Formatter W) (r : Result (Unit {0}) Error) (o : Option (List ℕ)) → (IsPlainFormatter f → IfSome o (λ bs. HasWritten took f bs g)) → DisplaysOnOk took f r o g
displayed took f g r None h = tt
displayed took f g r (Some x) h = λ p k. h p
