use Rattle.std.proofs.Common.{◌≡◌, length, ap, arith, w8, to_z, of_z, rules}
use Rattle.std.specs.Fmt.{signed_decimal}
use Rattle.std.proofs.lemmas.Int.{to_z-of_z}
use Rattle.catalogue.proofs.Texts.{length_cell}
use Rattle.catalogue.proofs.items.CellItem.text_length.Goals as goal

pub returns-clause-value : goal.returns-clause-value
returns-clause-value c =
    let x = c.args.self.now in
    let a : to_z w8 (of_z w8 x.a) ≡ x.a = search (rules, to_z-of_z) in
    let b : to_z w8 (of_z w8 x.b) ≡ x.b = search (rules, to_z-of_z) in
    let d : to_z w8 (of_z w8 x.c) ≡ x.c = search (rules, to_z-of_z) in
    omega (arith, length_cell x, c.signed_length.ensures.value, c.signed_length-2.ensures.value, c.signed_length-3.ensures.value, ap (λ z. length (signed_decimal z)) a, ap (λ z. length (signed_decimal z)) b, ap (λ z. length (signed_decimal z)) d)
