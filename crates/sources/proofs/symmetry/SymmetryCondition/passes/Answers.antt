use Rattle.std.proofs.Common.{eqb, rules}
use borrow.Author.Tests.{tests}
use Rattle.std.proofs.lemmas.Iterator.{YieldsList-from_slice}
use Rattle.std.proofs.lemmas.Iterator.Search.{all_from_yields_List}
use Rattle.lattice.specs.Kinds.{set_motions}
use Rattle.shapes.specs.Floods.{some_pass}
use Rattle.sources.proofs.Conditions.{decided}
use Rattle.sources.proofs.symmetry.SymmetryCondition.passes.Goals as goal

pub returns : goal.returns
returns c =
    let hs = set_motions c.args.entry.now.stabiliser in
    all_from_yields_List (λ g. some_pass (eqb g) hs) _ _ _ c.all.ensures.ran (YieldsList-from_slice c.args.self.now.motions.now cc) (λ x b q k. (search (rules, tests), decided x.now hs b (search (rules, tests))))
