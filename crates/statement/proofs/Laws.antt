-- The kind of a statement agrees with its meaning; a statement is written by its meaning. Assumes nothing.
use mathlib.Core.Path.{◌≡◌, refl, ap}
use Prim.Native.Nat.{ℕ}
use lib.IntN.{pos}
use Rattle.grammar.specs.Statements.{Boundary, double_yellow_of, solid_yellow_of, solid_white_of, broken_white_of, Kind, Says, say, part_id, point_id, RNDF_name_of, num_segments, num_zones, format_version_of, creation_date_of, segment, num_lanes, segment_name_of, end_segment, lane, num_waypoints, lane_width_of, left_boundary_of, right_boundary_of, checkpoint, stop, exit, end_lane_of, zone, num_spots, zone_name_of, end_zone, perimeter, num_perimeterpoints, end_perimeter, spot, spot_width_of, end_spot, end_file_of, point}
use Rattle.grammar.specs.PlaceRows.{kind_row}
use Rattle.grammar.specs.Statements as G
use Rattle.statement.specs.declared.Statement.{Statement}
use Rattle.statement.specs.declared.Statement.TheVariants as st
use Rattle.statement.specs.Meaning.{Stretch, stretch, boundary, meant}
use Rattle.statement.specs.Kinds.{kind_of, of_kind, written, boundary_row}
use Rattle.terms.specs.Words.{Between}
use Prim.Native.Nat.{zero, suc}
use native.Mathlib.Omega.{arith}

-- ## There and back again
pub boundary-back : (b : Boundary) → boundary (boundary_row b) ≡ b
unfolding boundary
boundary-back double_yellow_of = refl
boundary-back solid_yellow_of = refl
boundary-back solid_white_of = refl
boundary-back broken_white_of = refl

pub means : (k : Kind) (v : Says Stretch k) → meant (of_kind k v) ≡ say k v
means RNDF_name_of v = refl
means num_segments v = refl
means num_zones v = refl
means format_version_of v = refl
means creation_date_of v = refl
means segment v = refl
means num_lanes v = refl
means segment_name_of v = refl
means end_segment v = refl
means lane v = refl
means num_waypoints v = refl
means lane_width_of v = refl
means left_boundary_of v = ap (say left_boundary_of) (boundary-back v)
means right_boundary_of v = ap (say right_boundary_of) (boundary-back v)
means checkpoint v = refl
means stop v = refl
means exit v = refl
means end_lane_of v = refl
means zone v = refl
means num_spots v = refl
means zone_name_of v = refl
means end_zone v = refl
means perimeter v = refl
means num_perimeterpoints v = refl
means end_perimeter v = refl
means spot v = refl
means spot_width_of v = refl
means end_spot v = refl
means end_file_of v = refl
means point v = refl

-- a boundary is one of the four
abbrev pub InRange : Statement → Type 0
InRange (st.RndfName a l) = Unit {0}
InRange (st.NumSegments n) = Unit {0}
InRange (st.NumZones n) = Unit {0}
InRange (st.FormatVersion a l) = Unit {0}
InRange (st.CreationDate a l) = Unit {0}
InRange (st.Segment n) = Unit {0}
InRange (st.NumLanes n) = Unit {0}
InRange (st.SegmentName a l) = Unit {0}
InRange st.EndSegment = Unit {0}
InRange (st.Lane m n) = Unit {0}
InRange (st.NumWaypoints n) = Unit {0}
InRange (st.LaneWidth n) = Unit {0}
InRange (st.LeftBoundary b) = Between 1 4 b
InRange (st.RightBoundary b) = Between 1 4 b
InRange (st.Checkpoint i n) = Unit {0}
InRange (st.Stop i) = Unit {0}
InRange (st.Exit i e) = Unit {0}
InRange st.EndLane = Unit {0}
InRange (st.Zone n) = Unit {0}
InRange (st.NumSpots n) = Unit {0}
InRange (st.ZoneName a l) = Unit {0}
InRange st.EndZone = Unit {0}
InRange (st.Perimeter m n) = Unit {0}
InRange (st.NumPerimeterpoints n) = Unit {0}
InRange st.EndPerimeter = Unit {0}
InRange (st.Spot m n) = Unit {0}
InRange (st.SpotWidth n) = Unit {0}
InRange st.EndSpot = Unit {0}
InRange st.EndFile = Unit {0}
InRange (st.Point i a o) = Unit {0}

row_back : (n : ℕ) → Between 1 4 n → boundary_row (boundary n) ≡ n
unfolding boundary
row_back zero h = absurd (omega (arith, h.low))
row_back (suc zero) h = refl
row_back (suc (suc zero)) h = refl
row_back (suc (suc (suc zero))) h = refl
row_back (suc (suc (suc (suc zero)))) h = refl
row_back (suc (suc (suc (suc (suc n))))) h = absurd (omega (arith, h.high))

pub back : (s : Statement) → InRange s → written (meant s) ≡ s
back (st.RndfName a l) h = refl
back (st.NumSegments n) h = refl
back (st.NumZones n) h = refl
back (st.FormatVersion a l) h = refl
back (st.CreationDate a l) h = refl
back (st.Segment n) h = refl
back (st.NumLanes n) h = refl
back (st.SegmentName a l) h = refl
back st.EndSegment h = refl
back (st.Lane m n) h = refl
back (st.NumWaypoints n) h = refl
back (st.LaneWidth n) h = refl
back (st.LeftBoundary b) h = ap st.LeftBoundary (row_back b h)
back (st.RightBoundary b) h = ap st.RightBoundary (row_back b h)
back (st.Checkpoint i n) h = refl
back (st.Stop i) h = refl
back (st.Exit i e) h = refl
back st.EndLane h = refl
back (st.Zone n) h = refl
back (st.NumSpots n) h = refl
back (st.ZoneName a l) h = refl
back st.EndZone h = refl
back (st.Perimeter m n) h = refl
back (st.NumPerimeterpoints n) h = refl
back st.EndPerimeter h = refl
back (st.Spot m n) h = refl
back (st.SpotWidth n) h = refl
back st.EndSpot h = refl
back st.EndFile h = refl
back (st.Point i a o) h = refl

-- the kind of what is written
pub kind-written : (k : Kind) (v : Says Stretch k) → kind_of (of_kind k v) ≡ kind_row k
kind-written k v = ap (λ (s : G.Statement Stretch). kind_row s.kind) (means k v)

-- each kind says something
pub sample : (k : Kind) → Says Stretch k
sample RNDF_name_of = stretch 0 0
sample num_segments = 0
sample num_zones = 0
sample format_version_of = stretch 0 0
sample creation_date_of = stretch 0 0
sample segment = 0
sample num_lanes = 0
sample segment_name_of = stretch 0 0
sample end_segment = tt
sample lane = part_id 0 0
sample num_waypoints = 0
sample lane_width_of = 0
sample left_boundary_of = double_yellow_of
sample right_boundary_of = double_yellow_of
sample checkpoint = record { waypoint = point_id 0 0 0; number = 0 }
sample stop = point_id 0 0 0
sample exit = record { waypoint = point_id 0 0 0; entry = point_id 0 0 0 }
sample end_lane_of = tt
sample zone = 0
sample num_spots = 0
sample zone_name_of = stretch 0 0
sample end_zone = tt
sample perimeter = part_id 0 0
sample num_perimeterpoints = 0
sample end_perimeter = tt
sample spot = part_id 0 0
sample spot_width_of = 0
sample end_spot = tt
sample end_file_of = tt
sample point = record { id = point_id 0 0 0; position = record { latitude = pos 0; longitude = pos 0 } }
