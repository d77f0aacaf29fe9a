-- `place::Open::around` meets its contract. Assumes nothing.
use native.Mathlib.Numerals.{add-one}
use Rattle.place.proofs.Open.around.Goals as goal

pub returns-in-File : goal.returns-in-File
returns-in-File c = rw c.in-File.is

pub returns-in-Segment : goal.returns-in-Segment
returns-in-Segment c = rw (c.in-Segment.is, add-one)

pub returns-in-Lane : goal.returns-in-Lane
returns-in-Lane c = rw (c.in-Lane.is, add-one)

pub returns-in-Zone : goal.returns-in-Zone
returns-in-Zone c = rw (c.in-Zone.is, add-one)

pub returns-in-Perimeter : goal.returns-in-Perimeter
returns-in-Perimeter c = rw c.in-Perimeter.is

pub returns-in-Spot : goal.returns-in-Spot
returns-in-Spot c = rw (c.in-Spot.is, add-one)
