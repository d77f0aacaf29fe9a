-- The running form agrees with the theory: a statement changes what is shown of a state, and gives what is shown of a row, as `fill` says; it adds at most one row. Assumes nothing.
use mathlib.Core.Path.{◌≡◌, refl, ap}
use Prim.Native.Nat.{ℕ, suc, ◌+◌, ◌≤◌, ◌<◌}
use native.Mathlib.Omega.{arith}
use Rattle.units.specs.Made.{feet_of, missing_feet, feet}
use Rattle.grammar.specs.Statements.{Boundary, double_yellow_of, solid_yellow_of, solid_white_of, broken_white_of, Kind, Says, RNDF_name_of, num_segments, num_zones, format_version_of, creation_date_of, segment, num_lanes, segment_name_of, end_segment, lane, num_waypoints, lane_width_of, left_boundary_of, right_boundary_of, checkpoint, stop, exit, end_lane_of, zone, num_spots, zone_name_of, end_zone, perimeter, num_perimeterpoints, end_perimeter, spot, spot_width_of, end_spot, end_file_of, point}
use Rattle.grammar.specs.Tables.{colour}
use Rattle.room.proofs.Fitted.{fitted-kept}
use Rattle.fill.specs.NetworkRows.{State, start, next, gives, missing_width}
use Rattle.fill.specs.Counts.{Counts}
use Rattle.fill.specs.Tally.{no_counts, tally}
use Rattle.statement.specs.declared.Statement.{Statement}
use Rattle.statement.specs.declared.Statement.TheVariants as st
use Rattle.statement.specs.Meaning.{Stretch, stretch, boundary}
use Rattle.statement.specs.Kinds.{boundary_row, of_kind}
use Rattle.progress.specs.declared.Progress.{Progress}
use Rattle.progress.specs.After.{width_of, no_progress, total, after_of, after_within, side_of}
use Rattle.progress.specs.Given.{row_of}
use Rattle.progress.specs.Shown.{shown, shown_row, first_after, within_after}

-- ## Widths and boundaries
-- what stands for a missing width is no width, so it is shown as missing
pub missing-shown : width_of missing_width ≡ missing_feet
unfolding width_of feet_of
missing-shown = refl

pub none-wide : width_of 0 ≡ feet 0
unfolding width_of feet_of
none-wide = refl

same-side : (b : Boundary) → side_of (boundary_row b) ≡ colour b
unfolding side_of boundary
same-side double_yellow_of = refl
same-side solid_yellow_of = refl
same-side solid_white_of = refl
same-side broken_white_of = refl

-- ## Nothing so far
pub none-shown : shown (start (stretch 0 0)) no_counts 0 0 ≡ no_progress
none-shown = rw none-wide refl

-- ## A statement
-- f, w: where the points of the last part begin, and how many there are so far
pub after-shown : (k : Kind) (v : Says Stretch k) (s : State Stretch) (c : Counts) (f w : ℕ) → f + w ≡ s.points → s.lanes ≡ c.lanes → s.spots ≡ c.spots
    → after_of (of_kind k v) (shown s c f w) ≡ shown (next k v s) (tally k c) (first_after k f w) (within_after k w)
unfolding after_of
after-shown RNDF_name_of v s c f w e l p = refl
after-shown num_segments v s c f w e l p = refl
after-shown num_zones v s c f w e l p = refl
after-shown format_version_of v s c f w e l p = refl
after-shown creation_date_of v s c f w e l p = refl
after-shown segment v s c f w e l p = rw l refl
after-shown num_lanes v s c f w e l p = refl
after-shown segment_name_of v s c f w e l p = refl
after-shown end_segment v s c f w e l p = refl
after-shown lane v s c f w e l p = rw (e, missing-shown) refl
after-shown num_waypoints v s c f w e l p = refl
after-shown lane_width_of v s c f w e l p = refl
after-shown left_boundary_of v s c f w e l p = rw (same-side v) refl
after-shown right_boundary_of v s c f w e l p = rw (same-side v) refl
after-shown checkpoint v s c f w e l p = refl
after-shown stop v s c f w e l p = refl
after-shown exit v s c f w e l p = refl
after-shown end_lane_of v s c f w e l p = rw none-wide refl
after-shown zone v s c f w e l p = rw e refl
after-shown num_spots v s c f w e l p = rw p refl
after-shown zone_name_of v s c f w e l p = refl
after-shown end_zone v s c f w e l p = refl
after-shown perimeter v s c f w e l p = refl
after-shown num_perimeterpoints v s c f w e l p = refl
after-shown end_perimeter v s c f w e l p = refl
after-shown spot v s c f w e l p = rw (e, missing-shown) refl
after-shown spot_width_of v s c f w e l p = refl
after-shown end_spot v s c f w e l p = rw none-wide refl
after-shown end_file_of v s c f w e l p = refl
after-shown point v s c f w e l p = refl

pub points_kept : (k : Kind) (v : Says Stretch k) (s : State Stretch) (f w : ℕ) → f + w ≡ s.points → first_after k f w + within_after k w ≡ (next k v s).points
points_kept RNDF_name_of v s f w e = e
points_kept num_segments v s f w e = e
points_kept num_zones v s f w e = e
points_kept format_version_of v s f w e = e
points_kept creation_date_of v s f w e = e
points_kept segment v s f w e = e
points_kept num_lanes v s f w e = e
points_kept segment_name_of v s f w e = e
points_kept end_segment v s f w e = e
points_kept lane v s f w e = omega arith
points_kept num_waypoints v s f w e = e
points_kept lane_width_of v s f w e = e
points_kept left_boundary_of v s f w e = e
points_kept right_boundary_of v s f w e = e
points_kept checkpoint v s f w e = e
points_kept stop v s f w e = e
points_kept exit v s f w e = e
points_kept end_lane_of v s f w e = e
points_kept zone v s f w e = e
points_kept num_spots v s f w e = e
points_kept zone_name_of v s f w e = e
points_kept end_zone v s f w e = e
points_kept perimeter v s f w e = omega arith
points_kept num_perimeterpoints v s f w e = e
points_kept end_perimeter v s f w e = e
points_kept spot v s f w e = omega arith
points_kept spot_width_of v s f w e = e
points_kept end_spot v s f w e = e
points_kept end_file_of v s f w e = e
points_kept point v s f w e = omega arith

pub lanes-kept : (k : Kind) (v : Says Stretch k) (s : State Stretch) (c : Counts) → s.lanes ≡ c.lanes → (next k v s).lanes ≡ (tally k c).lanes
lanes-kept RNDF_name_of v s c l = l
lanes-kept num_segments v s c l = l
lanes-kept num_zones v s c l = l
lanes-kept format_version_of v s c l = l
lanes-kept creation_date_of v s c l = l
lanes-kept segment v s c l = l
lanes-kept num_lanes v s c l = l
lanes-kept segment_name_of v s c l = l
lanes-kept end_segment v s c l = l
lanes-kept lane v s c l = l
lanes-kept num_waypoints v s c l = l
lanes-kept lane_width_of v s c l = l
lanes-kept left_boundary_of v s c l = l
lanes-kept right_boundary_of v s c l = l
lanes-kept checkpoint v s c l = l
lanes-kept stop v s c l = l
lanes-kept exit v s c l = l
lanes-kept end_lane_of v s c l = ap suc l
lanes-kept zone v s c l = l
lanes-kept num_spots v s c l = l
lanes-kept zone_name_of v s c l = l
lanes-kept end_zone v s c l = l
lanes-kept perimeter v s c l = l
lanes-kept num_perimeterpoints v s c l = l
lanes-kept end_perimeter v s c l = l
lanes-kept spot v s c l = l
lanes-kept spot_width_of v s c l = l
lanes-kept end_spot v s c l = l
lanes-kept end_file_of v s c l = l
lanes-kept point v s c l = l

pub spots-kept : (k : Kind) (v : Says Stretch k) (s : State Stretch) (c : Counts) → s.spots ≡ c.spots → (next k v s).spots ≡ (tally k c).spots
spots-kept RNDF_name_of v s c p = p
spots-kept num_segments v s c p = p
spots-kept num_zones v s c p = p
spots-kept format_version_of v s c p = p
spots-kept creation_date_of v s c p = p
spots-kept segment v s c p = p
spots-kept num_lanes v s c p = p
spots-kept segment_name_of v s c p = p
spots-kept end_segment v s c p = p
spots-kept lane v s c p = p
spots-kept num_waypoints v s c p = p
spots-kept lane_width_of v s c p = p
spots-kept left_boundary_of v s c p = p
spots-kept right_boundary_of v s c p = p
spots-kept checkpoint v s c p = p
spots-kept stop v s c p = p
spots-kept exit v s c p = p
spots-kept end_lane_of v s c p = p
spots-kept zone v s c p = p
spots-kept num_spots v s c p = p
spots-kept zone_name_of v s c p = p
spots-kept end_zone v s c p = p
spots-kept perimeter v s c p = p
spots-kept num_perimeterpoints v s c p = p
spots-kept end_perimeter v s c p = p
spots-kept spot v s c p = p
spots-kept spot_width_of v s c p = p
spots-kept end_spot v s c p = ap suc p
spots-kept end_file_of v s c p = p
spots-kept point v s c p = p

-- ## A row
pub row-shown : (k : Kind) (v : Says Stretch k) (s : State Stretch) (c : Counts) (f w start : ℕ) → f + w ≡ s.points → row_of (of_kind k v) start (shown s c f w) ≡ shown_row start (gives k v s)
unfolding row_of
row-shown RNDF_name_of v s c f w start e = refl
row-shown num_segments v s c f w start e = refl
row-shown num_zones v s c f w start e = refl
row-shown format_version_of v s c f w start e = refl
row-shown creation_date_of v s c f w start e = refl
row-shown segment v s c f w start e = refl
row-shown num_lanes v s c f w start e = refl
row-shown segment_name_of v s c f w start e = refl
row-shown end_segment v s c f w start e = refl
row-shown lane v s c f w start e = refl
row-shown num_waypoints v s c f w start e = refl
row-shown lane_width_of v s c f w start e = refl
row-shown left_boundary_of v s c f w start e = refl
row-shown right_boundary_of v s c f w start e = refl
row-shown checkpoint v s c f w start e = rw e refl
row-shown stop v s c f w start e = rw e refl
row-shown exit v s c f w start e = rw e refl
row-shown end_lane_of v s c f w start e = refl
row-shown zone v s c f w start e = refl
row-shown num_spots v s c f w start e = refl
row-shown zone_name_of v s c f w start e = refl
row-shown end_zone v s c f w start e = refl
row-shown perimeter v s c f w start e = refl
row-shown num_perimeterpoints v s c f w start e = refl
row-shown end_perimeter v s c f w start e = refl
row-shown spot v s c f w start e = refl
row-shown spot_width_of v s c f w start e = refl
row-shown end_spot v s c f w start e = refl
row-shown end_file_of v s c f w start e = refl
row-shown point v s c f w start e = refl

-- ## Rows so far
-- the program counts as the theory does as long as there is room for one row more
pub counts : (s : Statement) (p : Progress) → total p < 4294967295 → after_within s p ≡ after_of s p
unfolding after_within after_of
counts (st.RndfName a l) p h = refl
counts (st.NumSegments n) p h = refl
counts (st.NumZones n) p h = refl
counts (st.FormatVersion a l) p h = refl
counts (st.CreationDate a l) p h = refl
counts (st.Segment n) p h = refl
counts (st.NumLanes n) p h = refl
counts (st.SegmentName a l) p h = refl
counts st.EndSegment p h = rw (fitted-kept (suc p.segments) (omega arith))
counts (st.Lane m n) p h = rw (fitted-kept (p.first + p.within) (omega arith))
counts (st.NumWaypoints n) p h = refl
counts (st.LaneWidth n) p h = refl
counts (st.LeftBoundary b) p h = refl
counts (st.RightBoundary b) p h = refl
counts (st.Checkpoint i n) p h = rw (fitted-kept (suc p.checkpoints) (omega arith))
counts (st.Stop i) p h = rw (fitted-kept (suc p.stops) (omega arith))
counts (st.Exit i e) p h = rw (fitted-kept (suc p.exits) (omega arith))
counts st.EndLane p h = rw (fitted-kept (suc p.lanes) (omega arith))
counts (st.Zone n) p h = rw (fitted-kept (p.first + p.within) (omega arith))
counts (st.NumSpots n) p h = refl
counts (st.ZoneName a l) p h = refl
counts st.EndZone p h = rw (fitted-kept (suc p.zones) (omega arith))
counts (st.Perimeter m n) p h = rw (fitted-kept (p.first + p.within) (omega arith))
counts (st.NumPerimeterpoints n) p h = refl
counts st.EndPerimeter p h = refl
counts (st.Spot m n) p h = rw (fitted-kept (p.first + p.within) (omega arith))
counts (st.SpotWidth n) p h = refl
counts st.EndSpot p h = rw (fitted-kept (suc p.spots) (omega arith))
counts st.EndFile p h = refl
counts (st.Point i a o) p h = rw (fitted-kept (suc p.within) (omega arith))

-- no statement adds more than one row
pub grows : (s : Statement) (p : Progress) → total (after_of s p) ≤ total p + 1
unfolding after_of
grows (st.RndfName a l) p = omega arith
grows (st.NumSegments n) p = omega arith
grows (st.NumZones n) p = omega arith
grows (st.FormatVersion a l) p = omega arith
grows (st.CreationDate a l) p = omega arith
grows (st.Segment n) p = omega arith
grows (st.NumLanes n) p = omega arith
grows (st.SegmentName a l) p = omega arith
grows st.EndSegment p = omega arith
grows (st.Lane m n) p = omega arith
grows (st.NumWaypoints n) p = omega arith
grows (st.LaneWidth n) p = omega arith
grows (st.LeftBoundary b) p = omega arith
grows (st.RightBoundary b) p = omega arith
grows (st.Checkpoint i n) p = omega arith
grows (st.Stop i) p = omega arith
grows (st.Exit i e) p = omega arith
grows st.EndLane p = omega arith
grows (st.Zone n) p = omega arith
grows (st.NumSpots n) p = omega arith
grows (st.ZoneName a l) p = omega arith
grows st.EndZone p = omega arith
grows (st.Perimeter m n) p = omega arith
grows (st.NumPerimeterpoints n) p = omega arith
grows st.EndPerimeter p = omega arith
grows (st.Spot m n) p = omega arith
grows (st.SpotWidth n) p = omega arith
grows st.EndSpot p = omega arith
grows st.EndFile p = omega arith
grows (st.Point i a o) p = omega arith
