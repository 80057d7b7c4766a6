use Rattle.shapes.proofs.laws.class_laws_hold.Goals as goal
use Rattle.shapes.proofs.Classes.{classes_hold}

pub returns : goal.returns
returns g c =
    let s = c.args.lattice.now in
    let L = g.L.Lattice in
    λ gs C. classes_hold (L.letters s) (L.directions s) (L.motions s) (L.onesided s) gs (L.rules s) C
