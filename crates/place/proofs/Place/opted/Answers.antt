-- `place::Place::opted` meets its contract. Assumes nothing.
use Rattle.place.proofs.Place.opted.Goals as goal

pub returns : goal.returns
returns c = rw (← c.marked.ensures)
