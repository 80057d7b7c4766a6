use Rattle.std.proofs.Common.{◌≡◌, ◌+◌, ◌^◌, ◌<◌, ◌≤◌, length, decimal, ap, arith, length-append}
use Rattle.std.proofs.lemmas.Fmt.{decimal_digit, decimal_step, length-decimal-le}
use Rattle.catalogue.proofs.numbers.+number_length.Goals as goal

pub returns-then-n-lt10 : goal.returns-then-n-lt10
returns-then-n-lt10 t c = record { value = omega (arith, ap length (decimal_digit c.args.n c.if-n-lt10.true)); few = omega arith }

pub returns-else-n-lt10 : goal.returns-else-n-lt10
returns-else-n-lt10 t c =
    let n = c.args.n in
    let small : n < 2 ^ 64 = omega arith in
    let value : c.number_length.result + 1 ≡ length (decimal n) = omega (arith, c.number_length.ensures.value, simp length-append at (ap length (decimal_step n c.if-n-lt10.false small))) in
    let most : length (decimal n) ≤ 20 = length-decimal-le 20 n (omega arith) (omega arith) small in
    record { value = value; few = omega arith }
