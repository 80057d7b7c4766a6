use Rattle.walk.proofs.Listings.{picks_listed, picks_enumerated}
use Rattle.walk.proofs.Nexts.{nexts}
use Rattle.walk.proofs.theorems.listings_are_whole.Goals as goal

pub returns : goal.returns
returns g c = record { listed = picks_listed; enumerated = picks_enumerated; following = nexts }
