-- `mission_place::MissionPlace::cell` meets its contract. Assumes nothing.
use Rattle.mission_place.specs.Step.{cell_of}
use Rattle.mission_place.proofs.MissionPlace.cell.Goals as goal

pub returns : goal.returns
unfolding cell_of
returns c = rw (← c.index.ensures) c.mdf_cell.ensures
