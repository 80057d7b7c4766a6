-- The laws of the product of whole numbers that `omega (arith, ints)` lacks, since they are not linear: it is handed each sum multiplied.
use Rattle.std.proofs.Common.{◌≡◌, ◌*◌, ℤ, ◌+ℤ◌, ◌*ℤ◌, ap, arith}
use borrow.Author.Differences.{up, down, sum_is_lem, product_is}
use Rattle.std.proofs.lemmas.Int.{ints}

pub mul_add : (a x y : ℤ) → a *ℤ (x +ℤ y) ≡ a *ℤ x +ℤ a *ℤ y
mul_add a x y = omega (arith, ints, ap (λ n. up a * n) (sum_is_lem x y), ap (λ n. down a * n) (sum_is_lem x y))

pub add_mul : (x y a : ℤ) → (x +ℤ y) *ℤ a ≡ x *ℤ a +ℤ y *ℤ a
add_mul x y a = omega (arith, ints, ap (λ n. up a * n) (sum_is_lem x y), ap (λ n. down a * n) (sum_is_lem x y))

pub mul_assoc : (a b c : ℤ) → (a *ℤ b) *ℤ c ≡ a *ℤ (b *ℤ c)
mul_assoc a b c =
    let p = product_is a b in
    let q = product_is b c in
    omega (arith, ints, ap (λ n. n * up c) p.0, ap (λ n. n * down c) p.0, ap (λ n. n * up c) p.1, ap (λ n. n * down c) p.1, ap (λ n. up a * n) q.0, ap (λ n. down a * n) q.0, ap (λ n. up a * n) q.1, ap (λ n. down a * n) q.1)
