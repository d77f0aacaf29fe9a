-- `place::Place::has` meets its contract. Assumes nothing.
use Rattle.place.proofs.Has.{slots}
use Rattle.place.proofs.Place.has.Goals as goal

pub returns : goal.returns
returns c = slots c.args.slot c.args.self.given
