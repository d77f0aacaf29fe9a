-- `place::Place::left` meets its contract. Assumes nothing.
use Rattle.place.proofs.Place.left.Goals as goal

pub returns : goal.returns
returns c = rw (← c.around-around.ensures, c.in_row.ensures)
