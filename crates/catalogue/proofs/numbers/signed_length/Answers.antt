use Rattle.std.proofs.Common.{rules}
use Rattle.std.proofs.lemmas.Fmt.{length-decimal-le}
use Rattle.catalogue.proofs.numbers.signed_length.Goals as goal

pub returns-then-z-lt0-clause-few : goal.returns-then-z-lt0-clause-few
returns-then-z-lt0-clause-few c = search (rules, length-decimal-le 3)

pub returns-else-z-lt0-clause-few : goal.returns-else-z-lt0-clause-few
returns-else-z-lt0-clause-few c = search (rules, length-decimal-le 3)
