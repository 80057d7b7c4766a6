use Rattle.std.proofs.Common.{◌≡◌, true}
use Rattle.shapes.proofs.Actions.{equivalence}
use Rattle.shapes.proofs.Leasts.{least_laws}
use Rattle.shapes.proofs.Orbits.{orbit_laws}
use Rattle.shapes.proofs.laws.action_laws_hold.Goals as goal

pub returns : goal.returns
returns g c good less same gs after act O eq A = record {
  equivalence = equivalence (λ x. good x ≡ true) gs after act A;
  leasts = least_laws (λ x. good x ≡ true) gs after act A less O;
  orbits = orbit_laws (λ x. good x ≡ true) gs after act A same eq less O;
}
