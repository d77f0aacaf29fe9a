-- Executable: the row that a statement gives, over the program's types. A part's row comes out at its end word. Assumes nothing.
use Rattle.std.specs.Prelude.{ℕ}
use Rattle.grammar.specs.Tables.{the_row_of}
use Rattle.room.specs.Room.{fitted}
use Rattle.units.specs.Made.{the_checkpoint_number_of}
use Rattle.statement.specs.declared.Statement.{Statement}
use Rattle.statement.specs.declared.Statement.TheVariants as st
use Rattle.progress.specs.declared.Progress.{Progress}
use Rattle.progress.specs.declared.Row.{Row}
use Rattle.progress.specs.declared.Row.TheVariants as Row
use Rattle.progress.specs.After.{next_point_of}

-- the row of waypoint z of the part that is open. Options come before the points of their part, so its first point is the next row of the points
abbrev pub point_of : Progress → ℕ → ℕ
point_of p z = fitted (the_row_of (next_point_of p) z)

-- `start`: where the last field of the statement's line starts in the text: of an exit its entry, which is looked up later
unfoldable pub row_of : Statement → ℕ → Progress → Row
row_of (st.RndfName a l) start p = Row.Nothing
row_of (st.NumSegments n) start p = Row.Nothing
row_of (st.NumZones n) start p = Row.Nothing
row_of (st.FormatVersion a l) start p = Row.Nothing
row_of (st.CreationDate a l) start p = Row.Nothing
row_of (st.Segment n) start p = Row.Nothing
row_of (st.NumLanes n) start p = Row.Nothing
row_of (st.SegmentName a l) start p = Row.Nothing
row_of st.EndSegment start p = Row.Segment p.segment
row_of (st.Lane m n) start p = Row.Nothing
row_of (st.NumWaypoints n) start p = Row.Nothing
row_of (st.LaneWidth n) start p = Row.Nothing
row_of (st.LeftBoundary b) start p = Row.Nothing
row_of (st.RightBoundary b) start p = Row.Nothing
row_of (st.Checkpoint i n) start p = Row.Checkpoint (the_checkpoint_number_of n) (point_of p i.z)
row_of (st.Stop i) start p = Row.Stop (record { point = point_of p i.z })
row_of (st.Exit i e) start p = Row.Exit (record { point = point_of p i.z; entry = start })
row_of st.EndLane start p = Row.Lane p.lane
row_of (st.Zone n) start p = Row.Nothing
row_of (st.NumSpots n) start p = Row.Nothing
row_of (st.ZoneName a l) start p = Row.Nothing
row_of st.EndZone start p = Row.Zone p.zone
row_of (st.Perimeter m n) start p = Row.Nothing
row_of (st.NumPerimeterpoints n) start p = Row.Nothing
row_of st.EndPerimeter start p = Row.Nothing
row_of (st.Spot m n) start p = Row.Nothing
row_of (st.SpotWidth n) start p = Row.Nothing
row_of st.EndSpot start p = Row.Spot p.spot
row_of st.EndFile start p = Row.Nothing
row_of (st.Point i a o) start p = Row.Point (record { latitude = a; longitude = o })
