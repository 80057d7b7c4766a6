use Rattle.std.proofs.Common.{◌≡◌, ◌<◌, ltb, length, Ok, filter, sym, ap, ◌∙◌, subst, arith}
use Rattle.std.specs.List.{range_with_len}
use Rattle.std.proofs.lemmas.Bool.{lt-ltb, cond-true}
use Rattle.ordered.specs.Lookups.{inserted}
use Rattle.lattice.specs.Kinds.{uses, kind_motions, motions_or_refusal, Closed, set_motions}
use Rattle.lattice.proofs.Uses.{kept_no, kept_yes, kind_closed}
use Rattle.lattice.proofs.kinds.motions_of_kind.Goals as goal
use Rattle.lattice.proofs.kinds.motions_of_kind.Goals.{then-uses, else-uses}

pub loop-motion-preserved : goal.loop-motion-preserved
loop-motion-preserved g c =
    let l = c.args.lattice.now in
    let m = c.loop-motion.motion in
    let small : m < 48 = omega (arith, (g.L.Lattice.rules l).few_motions, c.motion_count-motion-end.ensures) in
    let test = uses c.in_ok-kind.kind (g.L.Lattice.onesided l) in
    elim c.if-uses.branch [
      | then-uses w ↦ ap set_motions w.set-is ∙ w.insert.ensures.after ∙ cond-true (ltb m 48) _ _ (lt-ltb m 48 small) ∙ ap (inserted ltb m) c.loop-motion.invariant ∙ sym (kept_yes test m (sym w.if-uses.ensures))
      | else-uses w ↦ ap set_motions w.set-is ∙ c.loop-motion.invariant ∙ sym (kept_no test m (sym w.if-uses.ensures))
    ]

pub returns : goal.returns
returns g c =
    let l = c.args.lattice.now in
    let ms = g.L.Lattice.motions l in
    let os = g.L.Lattice.onesided l in
    let k = c.in_ok-kind.kind in
    let some = (g.L.Lattice.rules l).some_motions in
    let count = c.motion_count-motion-end.ensures in
    let end : c.loop-motion.motion ≡ length ms = omega (arith, some, count, c.loop-motion.auto.motion-end (omega (arith, some, count)), c.loop-motion-test.false) in
    let e : set_motions c.loop-motion.set ≡ kind_motions ms os k = c.loop-motion.invariant ∙ ap (λ n. filter (uses k os) (range_with_len 0 n)) end in
    record {
      value = ap Ok e ∙ ap (motions_or_refusal ms os) c.in_ok-kind.ensures;
      closed = λ s q.
          let same : c.loop-motion.set ≡ s = cc in
          subst (Closed ms) (sym e ∙ ap set_motions same) (kind_closed (g.L.Lattice.rules l) k);
    }
