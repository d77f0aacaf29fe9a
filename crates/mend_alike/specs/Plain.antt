-- Executable: a statement, what there is so far, and a row, but for their names: a name starts at 0 and has no bytes, and an exit's entry starts at 0. Assumes nothing.
use Rattle.statement.specs.declared.Statement.{Statement}
use Rattle.statement.specs.declared.Statement.TheVariants as st
use Rattle.judge.specs.Judging.{Got, bad, blank, said}
use Rattle.progress.specs.declared.Progress.{Progress}
use Rattle.progress.specs.declared.Row.{Row}
use Rattle.progress.specs.declared.Row.TheVariants as Row
use Rattle.progress.specs.After.{no_name_of, no_file, segment_row_of, zone_row_of}

unfoldable pub plain : Statement → Statement
plain (st.RndfName a l) = st.RndfName 0 0
plain (st.NumSegments n) = st.NumSegments n
plain (st.NumZones n) = st.NumZones n
plain (st.FormatVersion a l) = st.FormatVersion 0 0
plain (st.CreationDate a l) = st.CreationDate 0 0
plain (st.Segment n) = st.Segment n
plain (st.NumLanes n) = st.NumLanes n
plain (st.SegmentName a l) = st.SegmentName 0 0
plain st.EndSegment = st.EndSegment
plain (st.Lane m n) = st.Lane m n
plain (st.NumWaypoints n) = st.NumWaypoints n
plain (st.LaneWidth n) = st.LaneWidth n
plain (st.LeftBoundary b) = st.LeftBoundary b
plain (st.RightBoundary b) = st.RightBoundary b
plain (st.Checkpoint i n) = st.Checkpoint i n
plain (st.Stop i) = st.Stop i
plain (st.Exit i e) = st.Exit i e
plain st.EndLane = st.EndLane
plain (st.Zone n) = st.Zone n
plain (st.NumSpots n) = st.NumSpots n
plain (st.ZoneName a l) = st.ZoneName 0 0
plain st.EndZone = st.EndZone
plain (st.Perimeter m n) = st.Perimeter m n
plain (st.NumPerimeterpoints n) = st.NumPerimeterpoints n
plain st.EndPerimeter = st.EndPerimeter
plain (st.Spot m n) = st.Spot m n
plain (st.SpotWidth n) = st.SpotWidth n
plain st.EndSpot = st.EndSpot
plain st.EndFile = st.EndFile
plain (st.Point i a o) = st.Point i a o

-- what a line says, with a plain statement
abbrev pub plain_said : {P : Type 0} → Got Statement P → Got Statement P
plain_said (bad n) = bad n
plain_said blank = blank
plain_said (said s q) = said (plain s) q

-- what there is so far: the file's row and the names of the segment and the zone that are open are left out
unfoldable pub plainly : Progress → Progress
plainly p = record {
  segments = p.segments;
  lanes = p.lanes;
  zones = p.zones;
  spots = p.spots;
  checkpoints = p.checkpoints;
  stops = p.stops;
  exits = p.exits;
  first = p.first;
  within = p.within;
  file = no_file;
  segment = segment_row_of p.segment.first_lane p.segment.lanes no_name_of;
  lane = p.lane;
  zone = zone_row_of p.zone.first_point p.zone.points p.zone.first_spot p.zone.spots no_name_of;
  spot = p.spot;
}

-- a row: a segment and a zone without their names, an exit with an entry at 0
abbrev pub plain_row : Row → Row
plain_row Row.Nothing = Row.Nothing
plain_row (Row.Segment a) = Row.Segment (segment_row_of a.first_lane a.lanes no_name_of)
plain_row (Row.Lane a) = Row.Lane a
plain_row (Row.Zone a) = Row.Zone (zone_row_of a.first_point a.points a.first_spot a.spots no_name_of)
plain_row (Row.Spot a) = Row.Spot a
plain_row (Row.Point a) = Row.Point a
plain_row (Row.Checkpoint read k) = Row.Checkpoint read k
plain_row (Row.Stop a) = Row.Stop a
plain_row (Row.Exit a) = Row.Exit (record { point = a.point; entry = 0 })
