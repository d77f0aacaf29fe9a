-- Executable: what an edition refuses beside the present one: the number of the refusal, or 0. Request L10. Assumes nothing.
use Rattle.std.specs.Prelude.{true, false, ℕ, zero, suc}
use Rattle.terms.specs.Words.{pick}
use Rattle.grammar.specs.Editions.{Edition, march, december, has_boundary}
use Rattle.grammar.specs.Statements.{Kind, Says, RNDF_name_of, num_segments, num_zones, format_version_of, creation_date_of, segment, num_lanes, segment_name_of, end_segment, lane, num_waypoints, lane_width_of, left_boundary_of, right_boundary_of, checkpoint, stop, exit, end_lane_of, zone, num_spots, zone_name_of, end_zone, perimeter, num_perimeterpoints, end_perimeter, spot, spot_width_of, end_spot, end_file_of, point}

-- L10: "9 for 0 spots"
abbrev pub too_few : ℕ → ℕ
too_few zero = 9
too_few (suc n) = 0

-- L10: "8 for `solid_yellow`"
abbrev pub bars : (N : Type 0) → Edition → (k : Kind) → Says N k → ℕ
bars N march k v = 0
bars N december RNDF_name_of v = 0
bars N december num_segments v = 0
bars N december num_zones v = 0
bars N december format_version_of v = 0
bars N december creation_date_of v = 0
bars N december segment v = 0
bars N december num_lanes v = 0
bars N december segment_name_of v = 0
bars N december end_segment v = 0
bars N december lane v = 0
bars N december num_waypoints v = 0
bars N december lane_width_of v = 0
bars N december left_boundary_of v = pick (has_boundary december v) 0 8
bars N december right_boundary_of v = pick (has_boundary december v) 0 8
bars N december checkpoint v = 0
bars N december stop v = 0
bars N december exit v = 0
bars N december end_lane_of v = 0
bars N december zone v = 0
bars N december num_spots v = too_few v
bars N december zone_name_of v = 0
bars N december end_zone v = 0
bars N december perimeter v = 0
bars N december num_perimeterpoints v = 0
bars N december end_perimeter v = 0
bars N december spot v = 0
bars N december spot_width_of v = 0
bars N december end_spot v = 0
bars N december end_file_of v = 0
bars N december point v = 0
