-- `place::Place::opened` meets its contract. Assumes nothing.
use Rattle.place.proofs.Place.opened.Goals as goal

pub returns-in-Segment : goal.returns-in-Segment
returns-in-Segment c = rw (c.in-Segment.is, ← c.less.ensures)

pub returns-in-Lane : goal.returns-in-Lane
returns-in-Lane c = rw (c.in-Lane.is, ← c.less-in-Lane.ensures)

pub returns-in-Zone : goal.returns-in-Zone
returns-in-Zone c = rw (c.in-Zone.is, ← c.less-in-Zone.ensures)

pub returns-in-Spot : goal.returns-in-Spot
returns-in-Spot c = rw (c.in-Spot.is, ← c.less-in-Spot.ensures)
