-- What was opened, and how many a lister that was just opened hands out.
use Rattle.std.proofs.Common.{◌≡◌, ℕ, ◌^◌, ◌<◌, false, [], length, is_some, Ok, Err, Some, Option, Result, sym, subst, refl, arith, MatchResult}
use Rattle.std.specs.Option.{SomeIff}
use Rattle.std.specs.Result.{result_ok}
use Rattle.lattice.specs.declared.refusal.Refusal.{Refusal}
use Rattle.listing.specs.Made.{listing}
use Rattle.listing.specs.Openings.{Opening, Opened}
use Rattle.sources.specs.Sources.{Standing, ahead, standing}

-- the value of an answer was opened by the opening that gave the answer
pub opened_value : {X : Type 0} (x : Result Opening ℕ) (r : Result X Refusal) (s : X) (P : X → Opening → Type 0) → Some s ≡ result_ok r → Opened x r P → (o : Opening) × (x ≡ Ok o) × P s o
opened_value (Ok o) (Ok t) s P e h = let same : t ≡ s = cc in (o, refl, subst (λ y. P y o) same h)
opened_value (Err n) (Ok t) s P e h = absurd h
opened_value x (Err n) s P e h = let z : ◌≡◌ {A = ℕ} 0 1 = cc in absurd (omega arith)

-- the count of what is ahead of a fresh lister is the length of its listing
pub count_fresh : (x : Result Opening ℕ) (o : Opening) → x ≡ Ok o → (s : Standing) → s ≡ standing [] (listing o) → (r : Option ℕ) → SomeIff r (length (ahead s) < 2 ^ 64) (length (ahead s)) → MatchResult x (λ p. SomeIff r (length (listing p) < 2 ^ 64) (length (listing p))) (λ _. is_some r ≡ false)
count_fresh x o opened s fresh r counted =
    let listed : SomeIff r (length (listing o) < 2 ^ 64) (length (listing o)) = subst (λ (t : Standing). SomeIff r (length (ahead t) < 2 ^ 64) (length (ahead t))) fresh counted in
    subst (λ (y : Result Opening ℕ). MatchResult y (λ p. SomeIff r (length (listing p) < 2 ^ 64) (length (listing p))) (λ _. is_some r ≡ false)) (sym opened) listed
