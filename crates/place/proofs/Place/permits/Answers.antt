-- `place::Place::permits` meets its contract. Assumes nothing.
use mathlib.Core.Path.{◌≡◌}
use mir.Syntax.{w32}
use mir.Val.{to_z, of_z}
use mathlib.Core.Path.{sym}
use Rattle.place.proofs.Rest.{any_value}
use borrow.Author.Rules.{rules}
use Rattle.place.proofs.Place.permits.Goals as goal

pub returns-in-NumSegments : goal.returns-in-NumSegments
returns-in-NumSegments c = rw c.in-NumSegments.is c.counted.ensures

pub returns-in-NumZones : goal.returns-in-NumZones
returns-in-NumZones c = rw c.in-NumZones.is c.up_to.ensures

pub returns-in-Segment : goal.returns-in-Segment
returns-in-Segment c = rw c.in-Segment.is c.the_number.ensures

pub returns-in-NumLanes : goal.returns-in-NumLanes
returns-in-NumLanes c = rw c.in-NumLanes.is c.counted-in-NumLanes.ensures

pub returns-in-Lane : goal.returns-in-Lane
returns-in-Lane c = rw (c.in-Lane.is, ← c.major-m.ensures) c.the_part.ensures

pub returns-in-NumWaypoints : goal.returns-in-NumWaypoints
returns-in-NumWaypoints c = rw c.in-NumWaypoints.is c.counted-in-NumWaypoints.ensures

pub returns-in-LaneWidth : goal.returns-in-LaneWidth
returns-in-LaneWidth c = rw c.in-LaneWidth.is c.lane_width.ensures

pub returns-in-Checkpoint : goal.returns-in-Checkpoint
returns-in-Checkpoint c = rw (c.in-Checkpoint.is, ← c.major-m.ensures, ← c.minor-n.ensures, ← c.first_marked.ensures) c.own_checkpoint.ensures

pub returns-in-Stop : goal.returns-in-Stop
returns-in-Stop c = rw (c.in-Stop.is, ← c.major-m.ensures, ← c.minor-n.ensures) c.own_stop.ensures

pub returns-in-Exit : goal.returns-in-Exit
returns-in-Exit c = rw c.in-Exit.is c.exits.ensures

pub returns-in-Zone : goal.returns-in-Zone
returns-in-Zone c = rw c.in-Zone.is c.the_number-in-Zone.ensures

pub returns-in-NumSpots : goal.returns-in-NumSpots
returns-in-NumSpots c = rw c.in-NumSpots.is c.at_most.ensures

pub returns-in-Perimeter : goal.returns-in-Perimeter
returns-in-Perimeter c = rw (c.in-Perimeter.is, ← c.major-m.ensures) c.the_part-in-Perimeter.ensures

pub returns-in-NumPerimeterpoints : goal.returns-in-NumPerimeterpoints
returns-in-NumPerimeterpoints c = rw c.in-NumPerimeterpoints.is c.counted-in-NumPerimeterpoints.ensures

pub returns-in-Spot : goal.returns-in-Spot
returns-in-Spot c = rw (c.in-Spot.is, ← c.major-m.ensures) c.the_part-in-Spot.ensures

pub returns-in-SpotWidth : goal.returns-in-SpotWidth
returns-in-SpotWidth c = rw c.in-SpotWidth.is c.spot_width.ensures

pub returns-in-Point : goal.returns-in-Point
returns-in-Point c =
    let a : to_z w32 (of_z w32 c.in-Point.a) ≡ c.in-Point.a = search (rules, c.in-Point.known_told-in-Point-1-own.given) in
    let o : to_z w32 (of_z w32 c.in-Point.o) ≡ c.in-Point.o = search (rules, c.in-Point.known_told-in-Point-1-own.given) in
    rw (c.in-Point.is, ← c.major-m.ensures, ← c.minor-n.ensures) (rw (a, o) at c.the_point.ensures)

pub returns-in_default : goal.returns-in_default
returns-in_default c = sym (any_value c.args.self c.args.s c.in_default.in_default-own.keys18)
