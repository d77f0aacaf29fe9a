-- `place::Open::exits` meets its contract. Assumes nothing.
use Rattle.place.proofs.Open.exits.Goals as goal

pub returns-in-Lane : goal.returns-in-Lane
returns-in-Lane c = rw c.in-Lane.is c.own_exit.ensures

pub returns-in-Perimeter : goal.returns-in-Perimeter
returns-in-Perimeter c = rw c.in-Perimeter.is c.perimeter_exit.ensures
