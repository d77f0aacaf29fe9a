-- `progress::Progress::after` meets its contract. Assumes nothing.
use mathlib.Core.Path.{sym}
use Rattle.progress.specs.After.{after_within}
use Rattle.progress.proofs.Rest.{all-kept}
use Rattle.progress.proofs.Progress.after.Goals as goal

pub returns-in-RndfName : goal.returns-in-RndfName
unfolding after_within
returns-in-RndfName c = rw c.in-RndfName.is c.file_named.ensures

pub returns-in-FormatVersion : goal.returns-in-FormatVersion
unfolding after_within
returns-in-FormatVersion c = rw c.in-FormatVersion.is c.version_told.ensures

pub returns-in-CreationDate : goal.returns-in-CreationDate
unfolding after_within
returns-in-CreationDate c = rw c.in-CreationDate.is c.date_told.ensures

pub returns-in-Segment : goal.returns-in-Segment
unfolding after_within
returns-in-Segment c = rw c.in-Segment.is c.segment_begun.ensures

pub returns-in-NumLanes : goal.returns-in-NumLanes
unfolding after_within
returns-in-NumLanes c = rw c.in-NumLanes.is c.lanes_told.ensures

pub returns-in-SegmentName : goal.returns-in-SegmentName
unfolding after_within
returns-in-SegmentName c = rw c.in-SegmentName.is c.segment_named.ensures

pub returns-in-EndSegment : goal.returns-in-EndSegment
unfolding after_within
returns-in-EndSegment c = rw c.in-EndSegment.is c.segment_ended.ensures

pub returns-in-Lane : goal.returns-in-Lane
unfolding after_within
returns-in-Lane c = rw c.in-Lane.is c.lane_begun.ensures

pub returns-in-NumWaypoints : goal.returns-in-NumWaypoints
unfolding after_within
returns-in-NumWaypoints c = rw c.in-NumWaypoints.is c.waypoints_told.ensures

pub returns-in-LaneWidth : goal.returns-in-LaneWidth
unfolding after_within
returns-in-LaneWidth c = rw c.in-LaneWidth.is c.lane_wide.ensures

pub returns-in-LeftBoundary : goal.returns-in-LeftBoundary
unfolding after_within
returns-in-LeftBoundary c = rw c.in-LeftBoundary.is c.left_told.ensures

pub returns-in-RightBoundary : goal.returns-in-RightBoundary
unfolding after_within
returns-in-RightBoundary c = rw c.in-RightBoundary.is c.right_told.ensures

pub returns-in-Checkpoint : goal.returns-in-Checkpoint
unfolding after_within
returns-in-Checkpoint c = rw c.in-Checkpoint.is c.one_checkpoint.ensures

pub returns-in-Stop : goal.returns-in-Stop
unfolding after_within
returns-in-Stop c = rw c.in-Stop.is c.one_stop.ensures

pub returns-in-Exit : goal.returns-in-Exit
unfolding after_within
returns-in-Exit c = rw c.in-Exit.is c.one_exit.ensures

pub returns-in-EndLane : goal.returns-in-EndLane
unfolding after_within
returns-in-EndLane c = rw c.in-EndLane.is c.lane_ended.ensures

pub returns-in-Zone : goal.returns-in-Zone
unfolding after_within
returns-in-Zone c = rw c.in-Zone.is c.zone_begun.ensures

pub returns-in-NumSpots : goal.returns-in-NumSpots
unfolding after_within
returns-in-NumSpots c = rw c.in-NumSpots.is c.spots_told.ensures

pub returns-in-ZoneName : goal.returns-in-ZoneName
unfolding after_within
returns-in-ZoneName c = rw c.in-ZoneName.is c.zone_named.ensures

pub returns-in-EndZone : goal.returns-in-EndZone
unfolding after_within
returns-in-EndZone c = rw c.in-EndZone.is c.zone_ended.ensures

pub returns-in-Perimeter : goal.returns-in-Perimeter
unfolding after_within
returns-in-Perimeter c = rw c.in-Perimeter.is c.part_begun.ensures

pub returns-in-NumPerimeterpoints : goal.returns-in-NumPerimeterpoints
unfolding after_within
returns-in-NumPerimeterpoints c = rw c.in-NumPerimeterpoints.is c.perimeterpoints_told.ensures

pub returns-in-Spot : goal.returns-in-Spot
unfolding after_within
returns-in-Spot c = rw c.in-Spot.is c.spot_begun.ensures

pub returns-in-SpotWidth : goal.returns-in-SpotWidth
unfolding after_within
returns-in-SpotWidth c = rw c.in-SpotWidth.is c.spot_wide.ensures

pub returns-in-EndSpot : goal.returns-in-EndSpot
unfolding after_within
returns-in-EndSpot c = rw c.in-EndSpot.is c.spot_ended.ensures

pub returns-in-Point : goal.returns-in-Point
unfolding after_within
returns-in-Point c = rw c.in-Point.is c.one_point.ensures

pub returns-in_default : goal.returns-in_default
returns-in_default c = sym (all-kept c.args.s c.args.self c.in_default.in_default-own.keys27)
