use Rattle.std.proofs.Common.{length, ap, ◌∙◌, arith}
use Rattle.counts.proofs.counting.count.Goals as goal

pub returns : goal.returns
returns g c =
    let end = c.in_default.ensures.step in
    let none = ap length end.none in
    record {
      value = (omega (arith, c.loop-counted.invariant, none), omega (arith, c.loop-counted.invariant.0, none));
      through = λ _. end.same_ahead ∙ end.none;
    }
