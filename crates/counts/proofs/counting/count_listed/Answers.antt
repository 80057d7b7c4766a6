use Rattle.std.proofs.Common.{◌≡◌, ℕ, Ok, Result, subst}
use Rattle.lattice.specs.Kinds.{kind_number}
use Rattle.listing.specs.Openings.{Opening, opening_for}
use Rattle.counts.proofs.Counted.{opened_value, count_fresh}
use Rattle.counts.proofs.counting.count_listed.Goals as goal

pub returns : goal.returns
returns g c =
    let l = c.args.lattice in
    let L = g.L.Lattice in
    let x : ℕ → Result Opening ℕ = λ k. opening_for (L.directions l) (L.motions l) (L.onesided l) c.args.size k in
    let (o, h, fresh) = opened_value (x c.from.result) _ c.in_ok-lister.lister _ c.in_ok-lister.ensures.value c.open.ensures in
    count_fresh (x (kind_number c.args.kind)) o (subst (λ k. x k ≡ Ok o) c.from.ensures h) _ fresh.1 c.count.result c.count.ensures.value
