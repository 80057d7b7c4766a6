use Rattle.std.proofs.Common.{length, ap, ◌∙◌, arith}
use Rattle.std.specs.List.{list_all}
use Rattle.std.proofs.lemmas.List.{take_all}
use Rattle.lattice.specs.Cells.{within}
use Rattle.walk.proofs.Around.{all_pass_within}
use Rattle.walk.proofs.direction_list.DirectionList.of.Goals as goal

pub invariant_of-result : goal.invariant_of-result
invariant_of-result g c =
    let ds = g.L.Lattice.directions c.args.lattice.now in
    let rules = g.L.Lattice.rules c.args.lattice.now in
    let e = c.loop-k.invariant ∙ take_all c.loop-k.k ds (omega arith) in
    record {
      few = omega (arith, ap length e, rules.few_directions);
      short = ap (list_all (within 1)) e ∙ all_pass_within 1 ds rules.directions_short;
    }
