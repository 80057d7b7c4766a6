use Rattle.std.proofs.Common.{◌≡◌, ℕ, sym, arith}
use Rattle.std.proofs.lemmas.Bool.Decides.{nat_tests}
use Rattle.lattice.specs.Lattices.{number_after}
use Rattle.lattice.proofs.Numbers.{in_turn}
use Rattle.lattices.specs.Cubic.{cubic_motions}
use Rattle.lattices.specs.CubicTable.{table, table_after, cubic_rules, cubic_after}
use Rattle.lattices.proofs.Counts.{cubic_count}
use Rattle.lattices.proofs.cubic.CubicLattice.after.Goals as goal

pub returns-then-g-ge-MOTIONS : goal.returns-then-g-ge-MOTIONS
returns-then-g-ge-MOTIONS c =
    let e : ◌≡◌ {A = ℕ} 0 (number_after cubic_motions c.args.g c.args.h) = rw cubic_count (grind (arith, nat_tests)) in
    record { value = e; in_turn = in_turn cubic_rules c.args.g c.args.h 0 e }

pub returns : goal.returns
unfolding table table_after
returns c =
    let e : table_after c.args.g c.args.h ≡ number_after cubic_motions c.args.g c.args.h = sym (cubic_after c.args.g c.args.h c.if-g-ge-MOTIONS.false c.if-h-ge-MOTIONS.false) in
    record { value = e; in_turn = in_turn cubic_rules c.args.g c.args.h (table_after c.args.g c.args.h) e }
