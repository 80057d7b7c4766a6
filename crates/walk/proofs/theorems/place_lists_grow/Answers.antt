use Rattle.walk.proofs.Lawful.{lawful_lists}
use Rattle.walk.proofs.Places.{place_lists_lawful}
use Rattle.walk.proofs.theorems.place_lists_grow.Goals as goal

pub returns : goal.returns
returns g c = record { places = place_lists_lawful; picks = lawful_lists }
