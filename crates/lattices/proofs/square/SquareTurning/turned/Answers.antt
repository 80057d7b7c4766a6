use Rattle.std.proofs.Common.{arith}
use Rattle.std.proofs.lemmas.Int.{ints}
use Rattle.lattices.proofs.Turns.{square_turned}
use Rattle.lattices.proofs.square.SquareTurning.turned.Goals as goal

pub returns-in-0 : goal.returns-in-0
returns-in-0 c = square_turned c.args.times 0 c.in-0.is c.args.x _ (λ near. (omega (arith, ints), omega (arith, ints), omega (arith, ints)))

pub returns-in-1 : goal.returns-in-1
returns-in-1 c = square_turned c.args.times 1 c.in-1.is c.args.x _ (λ near. (omega (arith, ints), omega (arith, ints), omega (arith, ints)))

pub returns-in-2 : goal.returns-in-2
returns-in-2 c = square_turned c.args.times 2 c.in-2.is c.args.x _ (λ near. (omega (arith, ints), omega (arith, ints), omega (arith, ints)))

pub returns-in_default : goal.returns-in_default
returns-in_default c = square_turned c.args.times 3 (omega arith) c.args.x _ (λ near. (omega (arith, ints), omega (arith, ints), omega (arith, ints)))
