use Rattle.std.proofs.Common.{◌/◌, ◌^◌, ◌<◌, [], length, decimal, refl, arith, length-append, rules}
use Rattle.std.proofs.lemmas.Fmt.{decimal_digit, decimal_step, decimal_nonempty, length-decimal-le}
use Rattle.catalogue.proofs.Over.{over_byte}
use Rattle.catalogue.proofs.numbers.+put_number.Goals as goal

pub bounds-rest-0 : goal.bounds-rest-0
bounds-rest-0 t c = search (rules, decimal_nonempty)

pub put_number-at-requires : goal.put_number-at-requires
put_number-at-requires t c = search (rules, decimal_step, length-append)

pub bounds-rest-at : goal.bounds-rest-at
bounds-rest-at t c = search (rules, decimal_step, length-append)

pub overflow_add-result : goal.overflow_add-result
overflow_add-result t c = search (rules, length-decimal-le 20)

pub returns-then-n-lt10 : goal.returns-then-n-lt10
returns-then-n-lt10 t c =
    let e = decimal_digit c.args.n c.if-n-lt10.true in
    let room : 0 < length c.args.rest.now = search (rules, decimal_nonempty) in
    record { value = rw e; after = rw e (over_byte [] c.args.rest.now _ 0 _ refl refl room) }

pub returns-else-n-lt10 : goal.returns-else-n-lt10
returns-else-n-lt10 t c =
    let small : c.args.n < 2 ^ 64 = omega arith in
    let e = decimal_step c.args.n c.if-n-lt10.false small in
    let room : length (decimal (c.args.n / 10)) < length c.args.rest.now = search (rules, decimal_step, length-append) in
    record {
      value = search (rules, decimal_step, length-append);
      after = rw (e, c.put_number-at.ensures.value) (over_byte _ c.args.rest.now _ _ _ c.put_number-at.ensures.after refl room);
    }
