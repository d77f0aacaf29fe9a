-- `place::Place::cell` meets its contract. Assumes nothing.
use Rattle.place.specs.Step.{cell_of}
use Rattle.place.proofs.Place.cell.Goals as goal

pub returns : goal.returns
unfolding cell_of
returns c = rw (← c.index.ensures) c.rndf_cell.ensures
