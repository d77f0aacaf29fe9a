-- `place::Place::after` meets its contract. Assumes nothing.
use mathlib.Core.Path.{sym, ◌∙◌}
use borrow.Author.Rules.{rules}
use Rattle.place.proofs.Rest.{stays, ends, counts_points}
use Rattle.place.proofs.Place.after.Goals as goal

pub returns-in-NumSegments : goal.returns-in-NumSegments
returns-in-NumSegments c = rw (c.in-NumSegments.is, c.in_row-p.ensures)

pub returns-in-NumZones : goal.returns-in-NumZones
returns-in-NumZones c = rw (c.in-NumZones.is, c.in_row-p.ensures)

pub returns-in-Segment : goal.returns-in-Segment
returns-in-Segment c = rw c.in-Segment.is c.opened.ensures

pub returns-in-NumLanes : goal.returns-in-NumLanes
returns-in-NumLanes c = rw (c.in-NumLanes.is, c.in_row-p.ensures)

pub returns-in-Lane : goal.returns-in-Lane
returns-in-Lane c = rw c.in-Lane.is c.opened-in-Lane.ensures

pub returns-in-NumWaypoints : goal.returns-in-NumWaypoints
returns-in-NumWaypoints c = rw c.in_row-p.ensures (sym (counts_points c.args.self c.args.s c.args.row _ c.in-NumWaypoints.is))

pub returns-in-Zone : goal.returns-in-Zone
returns-in-Zone c = rw c.in-Zone.is c.opened-in-Zone.ensures

pub returns-in-NumSpots : goal.returns-in-NumSpots
returns-in-NumSpots c = rw (c.in-NumSpots.is, c.in_row-p.ensures)

pub returns-in-Perimeter : goal.returns-in-Perimeter
returns-in-Perimeter c = rw c.in-Perimeter.is c.opened-in-Perimeter.ensures

pub returns-in-Spot : goal.returns-in-Spot
returns-in-Spot c = rw c.in-Spot.is c.opened-in-Spot.ensures

pub returns-in-EndSegment : goal.returns-in-EndSegment
returns-in-EndSegment c = c.left.ensures ∙ sym (ends c.args.self c.args.s c.args.row c.in-EndSegment.is)

pub returns-in-EndFile : goal.returns-in-EndFile
returns-in-EndFile c = rw (c.in-EndFile.is, c.in_row-p.ensures)

pub returns-in-Point : goal.returns-in-Point
returns-in-Point c = rw c.in-Point.is c.passed.ensures

pub returns-in_default : goal.returns-in_default
returns-in_default c = c.in_row-p.ensures ∙ sym (stays c.args.self c.args.s c.args.row (search (rules, c.in_default.in_default-own)))
