-- Executable: what a reader of an RNDF has so far, and what a statement changes in it, over the program's types. Assumes nothing.
use Rattle.std.specs.Prelude.{ℕ, suc, ◌+◌, Some, None, Option}
use Rattle.grammar.specs.Tables.{first_spot_of}
use Rattle.room.specs.Room.{fitted}
use Rattle.units.specs.Made.{feet, feet_of, missing_feet}
use Rattle.units.specs.declared.Feet.{Feet}
use Rattle.rows.specs.declared.Stretch.{Stretch}
use Rattle.rows.specs.declared.FileRow.{FileRow}
use Rattle.rows.specs.declared.SegmentRow.{SegmentRow}
use Rattle.rows.specs.declared.LaneRow.{LaneRow}
use Rattle.rows.specs.declared.ZoneRow.{ZoneRow}
use Rattle.rows.specs.declared.SpotRow.{SpotRow}
use Rattle.statement.specs.declared.Statement.{Statement}
use Rattle.statement.specs.Meaning.{boundary}
use Rattle.statement.specs.Kinds.{boundary_row}
use Rattle.statement.specs.declared.Statement.TheVariants as st
use Rattle.progress.specs.declared.Progress.{Progress}

-- ## Numbers
-- a width that was refused counts as missing
abbrev pub width_read : Option Feet → Feet
width_read (Some f) = f
width_read None = missing_feet

unfoldable pub width_of : ℕ → Feet
width_of n = width_read (feet_of n)

-- a boundary's number; any other than 1 to 4 is taken for the last
unfoldable pub side_of : ℕ → ℕ
side_of b = boundary_row (boundary b)

-- ## Rows of open parts
abbrev pub named : ℕ → ℕ → Stretch
named start len = record { start = start; length = len }

-- 01: "a missing name is 0, 0"
abbrev pub no_name_of : Stretch
no_name_of = named 0 0

abbrev pub file_row_of : Stretch → Stretch → Stretch → FileRow
file_row_of name version date = record { name = name; version = version; date = date }

abbrev pub segment_row_of : ℕ → ℕ → Stretch → SegmentRow
segment_row_of first-lane lanes name = record { first_lane = first-lane; lanes = lanes; name = name }

abbrev pub lane_row : ℕ → ℕ → Feet → ℕ → ℕ → LaneRow
lane_row first_point_of points width left right = record { first_point = first_point_of; points = points; width = width; left = left; right = right }

abbrev pub zone_row_of : ℕ → ℕ → ℕ → ℕ → Stretch → ZoneRow
zone_row_of first_point_of points first spots name = record { first_point = first_point_of; points = points; first_spot = first; spots = spots; name = name }

abbrev pub spot_row_of : ℕ → Feet → SpotRow
spot_row_of first_point_of width = record { first_point = first_point_of; width = width }

-- what stands where no such part is open
abbrev pub no_file : FileRow
no_file = file_row_of no_name_of no_name_of no_name_of

abbrev pub no_segment_of : SegmentRow
no_segment_of = segment_row_of 0 0 no_name_of

abbrev pub no_lane_of : LaneRow
no_lane_of = lane_row 0 0 (feet 0) 0 0

abbrev pub no_zone_of : ZoneRow
no_zone_of = zone_row_of 0 0 0 0 no_name_of

abbrev pub no_spot_of : SpotRow
no_spot_of = spot_row_of 0 (feet 0)

-- ## What there is so far
abbrev pub no_progress : Progress
no_progress = record { segments = 0; lanes = 0; zones = 0; spots = 0; checkpoints = 0; stops = 0; exits = 0; first = 0; within = 0; file = no_file; segment = no_segment_of; lane = no_lane_of; zone = no_zone_of; spot = no_spot_of }

-- all rows together
abbrev pub total : Progress → ℕ
total p = p.segments + p.lanes + p.zones + p.spots + p.checkpoints + p.stops + p.exits + p.first + p.within

-- the row of the next point
abbrev pub next_point_of : Progress → ℕ
next_point_of p = p.first + p.within

-- the same with another row of an open part
abbrev pub with_file : FileRow → Progress → Progress
with_file a p = record { segments = p.segments; lanes = p.lanes; zones = p.zones; spots = p.spots; checkpoints = p.checkpoints; stops = p.stops; exits = p.exits; first = p.first; within = p.within; file = a; segment = p.segment; lane = p.lane; zone = p.zone; spot = p.spot }

abbrev pub with_segment : SegmentRow → Progress → Progress
with_segment a p = record { segments = p.segments; lanes = p.lanes; zones = p.zones; spots = p.spots; checkpoints = p.checkpoints; stops = p.stops; exits = p.exits; first = p.first; within = p.within; file = p.file; segment = a; lane = p.lane; zone = p.zone; spot = p.spot }

abbrev pub with_lane : LaneRow → Progress → Progress
with_lane a p = record { segments = p.segments; lanes = p.lanes; zones = p.zones; spots = p.spots; checkpoints = p.checkpoints; stops = p.stops; exits = p.exits; first = p.first; within = p.within; file = p.file; segment = p.segment; lane = a; zone = p.zone; spot = p.spot }

abbrev pub with_zone : ZoneRow → Progress → Progress
with_zone a p = record { segments = p.segments; lanes = p.lanes; zones = p.zones; spots = p.spots; checkpoints = p.checkpoints; stops = p.stops; exits = p.exits; first = p.first; within = p.within; file = p.file; segment = p.segment; lane = p.lane; zone = a; spot = p.spot }

abbrev pub with_spot : SpotRow → Progress → Progress
with_spot a p = record { segments = p.segments; lanes = p.lanes; zones = p.zones; spots = p.spots; checkpoints = p.checkpoints; stops = p.stops; exits = p.exits; first = p.first; within = p.within; file = p.file; segment = p.segment; lane = p.lane; zone = p.zone; spot = a }

-- the same with other points
abbrev pub points_at : (first within : ℕ) → Progress → Progress
points_at first within p = record { segments = p.segments; lanes = p.lanes; zones = p.zones; spots = p.spots; checkpoints = p.checkpoints; stops = p.stops; exits = p.exits; first = first; within = within; file = p.file; segment = p.segment; lane = p.lane; zone = p.zone; spot = p.spot }

-- ## What a statement changes
-- `kept`: what a counter keeps of the number that it comes to, so that the theory and the program count by the same clauses
module _ (kept : ℕ → ℕ) where
  -- the same with one row more
  abbrev pub one_segment : Progress → Progress
  one_segment p = record { segments = kept (suc p.segments); lanes = p.lanes; zones = p.zones; spots = p.spots; checkpoints = p.checkpoints; stops = p.stops; exits = p.exits; first = p.first; within = p.within; file = p.file; segment = p.segment; lane = p.lane; zone = p.zone; spot = p.spot }

  abbrev pub one_lane : Progress → Progress
  one_lane p = record { segments = p.segments; lanes = kept (suc p.lanes); zones = p.zones; spots = p.spots; checkpoints = p.checkpoints; stops = p.stops; exits = p.exits; first = p.first; within = p.within; file = p.file; segment = p.segment; lane = p.lane; zone = p.zone; spot = p.spot }

  abbrev pub one_zone : Progress → Progress
  one_zone p = record { segments = p.segments; lanes = p.lanes; zones = kept (suc p.zones); spots = p.spots; checkpoints = p.checkpoints; stops = p.stops; exits = p.exits; first = p.first; within = p.within; file = p.file; segment = p.segment; lane = p.lane; zone = p.zone; spot = p.spot }

  abbrev pub one_spot : Progress → Progress
  one_spot p = record { segments = p.segments; lanes = p.lanes; zones = p.zones; spots = kept (suc p.spots); checkpoints = p.checkpoints; stops = p.stops; exits = p.exits; first = p.first; within = p.within; file = p.file; segment = p.segment; lane = p.lane; zone = p.zone; spot = p.spot }

  abbrev pub one_checkpoint_of : Progress → Progress
  one_checkpoint_of p = record { segments = p.segments; lanes = p.lanes; zones = p.zones; spots = p.spots; checkpoints = kept (suc p.checkpoints); stops = p.stops; exits = p.exits; first = p.first; within = p.within; file = p.file; segment = p.segment; lane = p.lane; zone = p.zone; spot = p.spot }

  abbrev pub one_stop_of : Progress → Progress
  one_stop_of p = record { segments = p.segments; lanes = p.lanes; zones = p.zones; spots = p.spots; checkpoints = p.checkpoints; stops = kept (suc p.stops); exits = p.exits; first = p.first; within = p.within; file = p.file; segment = p.segment; lane = p.lane; zone = p.zone; spot = p.spot }

  abbrev pub one_exit_of : Progress → Progress
  one_exit_of p = record { segments = p.segments; lanes = p.lanes; zones = p.zones; spots = p.spots; checkpoints = p.checkpoints; stops = p.stops; exits = kept (suc p.exits); first = p.first; within = p.within; file = p.file; segment = p.segment; lane = p.lane; zone = p.zone; spot = p.spot }

  -- a part begins whose points follow those of the part before
  abbrev pub begun : Progress → Progress
  begun p = points_at (kept (next_point_of p)) 0 p

  abbrev pub after_by : Statement → Progress → Progress
  after_by (st.RndfName a l) p = with_file (file_row_of (named a l) p.file.version p.file.date) p
  after_by (st.NumSegments n) p = p
  after_by (st.NumZones n) p = p
  after_by (st.FormatVersion a l) p = with_file (file_row_of p.file.name (named a l) p.file.date) p
  after_by (st.CreationDate a l) p = with_file (file_row_of p.file.name p.file.version (named a l)) p
  after_by (st.Segment n) p = with_segment (segment_row_of p.lanes 0 no_name_of) p
  after_by (st.NumLanes n) p = with_segment (segment_row_of p.segment.first_lane n p.segment.name) p
  after_by (st.SegmentName a l) p = with_segment (segment_row_of p.segment.first_lane p.segment.lanes (named a l)) p
  after_by st.EndSegment p = with_segment no_segment_of (one_segment p)
  after_by (st.Lane m n) p = with_lane (lane_row (kept (next_point_of p)) 0 missing_feet 0 0) (begun p)
  after_by (st.NumWaypoints n) p = with_lane (lane_row p.lane.first_point n p.lane.width p.lane.left p.lane.right) p
  after_by (st.LaneWidth n) p = with_lane (lane_row p.lane.first_point p.lane.points (width_of n) p.lane.left p.lane.right) p
  after_by (st.LeftBoundary b) p = with_lane (lane_row p.lane.first_point p.lane.points p.lane.width (side_of b) p.lane.right) p
  after_by (st.RightBoundary b) p = with_lane (lane_row p.lane.first_point p.lane.points p.lane.width p.lane.left (side_of b)) p
  after_by (st.Checkpoint i n) p = one_checkpoint_of p
  after_by (st.Stop i) p = one_stop_of p
  after_by (st.Exit i e) p = one_exit_of p
  after_by st.EndLane p = with_lane no_lane_of (one_lane p)
  after_by (st.Zone n) p = with_zone (zone_row_of (kept (next_point_of p)) 0 0 0 no_name_of) p
  after_by (st.NumSpots n) p = with_zone (zone_row_of p.zone.first_point p.zone.points (first_spot_of p.spots n) n p.zone.name) p
  after_by (st.ZoneName a l) p = with_zone (zone_row_of p.zone.first_point p.zone.points p.zone.first_spot p.zone.spots (named a l)) p
  after_by st.EndZone p = with_zone no_zone_of (one_zone p)
  after_by (st.Perimeter m n) p = begun p
  after_by (st.NumPerimeterpoints n) p = with_zone (zone_row_of p.zone.first_point n p.zone.first_spot p.zone.spots p.zone.name) p
  after_by st.EndPerimeter p = p
  after_by (st.Spot m n) p = with_spot (spot_row_of (kept (next_point_of p)) missing_feet) (begun p)
  after_by (st.SpotWidth n) p = with_spot (spot_row_of p.spot.first_point (width_of n)) p
  after_by st.EndSpot p = with_spot no_spot_of (one_spot p)
  after_by st.EndFile p = p
  after_by (st.Point i a o) p = points_at p.first (kept (suc p.within)) p

-- as the theory counts: a counter keeps every number
unfoldable pub after_of : Statement → Progress → Progress
after_of = after_by (λ n. n)

-- as the program counts: each counter stops by itself at 4,294,967,295. No text that is read has so many rows (proofs/Shown.counts)
unfoldable pub after_within : Statement → Progress → Progress
after_within = after_by fitted
