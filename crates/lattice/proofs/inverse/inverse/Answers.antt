use Rattle.std.proofs.Common.{◌≡◌, ◌≢◌, ◌∙◌, rules}
use Rattle.std.proofs.lemmas.Iterator.{first_from_Range}
use Rattle.lattice.specs.Lattices.{number_after}
use Rattle.lattice.proofs.Undoing.{lowest, undoes}
use Rattle.lattice.proofs.inverse.inverse.Goals as goal

pub returns : goal.returns
returns g c =
    let l = c.args.lattice.now in
    let ms = g.L.Lattice.motions l in
    let R = g.L.Lattice.rules l in
    let m = c.args.motion in
    let first = first_from_Range _ _ _ c.find.result (λ h. number_after ms h m ≡ 0) (λ h. number_after ms h m ≢ 0) c.find.ensures.ran (λ x q k. search rules) (λ x q k. search rules) in
    let t = lowest R m c.find.result (rw c.motion_count.ensures at first) in
    record { value = c.unwrap_or.ensures ∙ t.0; undoes = λ h. rw c.unwrap_or.ensures (undoes R m _ t.1 h t.2) }
