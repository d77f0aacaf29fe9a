-- The fields of every statement of an RNDF, from the first on. Document 01, "The order of an RNDF". Assumes nothing.
use Rattle.std.specs.Prelude.{List, [], ◌∷◌}
use Rattle.line.specs.Content.{Field}
use Rattle.grammar.specs.Editions.{Edition, march}
use Rattle.grammar.specs.Statements.{Kind, Says, Statement, RNDF_name_of, num_segments, num_zones, format_version_of, creation_date_of, segment, num_lanes, segment_name_of, end_segment, lane, num_waypoints, lane_width_of, left_boundary_of, right_boundary_of, checkpoint, stop, exit, end_lane_of, zone, num_spots, zone_name_of, end_zone, perimeter, num_perimeterpoints, end_perimeter, spot, spot_width_of, end_spot, end_file_of, point}
use Rattle.text.specs.Said.{Said, keyword, name, integer, pair, triple, coordinate, boundary}

unfoldable pub rndf_line_in_of : Edition → (k : Kind) → Says Field k → List Said
rndf_line_in_of e RNDF_name_of v = keyword "RNDF_name" ∷ name v ∷ []
rndf_line_in_of e num_segments n = keyword "num_segments" ∷ integer n ∷ []
rndf_line_in_of e num_zones n = keyword "num_zones" ∷ integer n ∷ []
rndf_line_in_of e format_version_of v = keyword "format_version" ∷ name v ∷ []
rndf_line_in_of e creation_date_of v = keyword "creation_date" ∷ name v ∷ []
rndf_line_in_of e segment m = keyword "segment" ∷ integer m ∷ []
rndf_line_in_of e num_lanes n = keyword "num_lanes" ∷ integer n ∷ []
rndf_line_in_of e segment_name_of v = keyword "segment_name" ∷ name v ∷ []
rndf_line_in_of e end_segment v = keyword "end_segment" ∷ []
rndf_line_in_of e lane i = keyword "lane" ∷ pair i ∷ []
rndf_line_in_of e num_waypoints n = keyword "num_waypoints" ∷ integer n ∷ []
rndf_line_in_of e lane_width_of n = keyword "lane_width" ∷ integer n ∷ []
rndf_line_in_of e left_boundary_of b = keyword "left_boundary" ∷ boundary e b ∷ []
rndf_line_in_of e right_boundary_of b = keyword "right_boundary" ∷ boundary e b ∷ []
rndf_line_in_of e checkpoint c = keyword "checkpoint" ∷ triple c.waypoint ∷ integer c.number ∷ []
rndf_line_in_of e stop i = keyword "stop" ∷ triple i ∷ []
rndf_line_in_of d exit e = keyword "exit" ∷ triple e.waypoint ∷ triple e.entry ∷ []
rndf_line_in_of e end_lane_of v = keyword "end_lane" ∷ []
rndf_line_in_of e zone m = keyword "zone" ∷ integer m ∷ []
rndf_line_in_of e num_spots n = keyword "num_spots" ∷ integer n ∷ []
rndf_line_in_of e zone_name_of v = keyword "zone_name" ∷ name v ∷ []
rndf_line_in_of e end_zone v = keyword "end_zone" ∷ []
rndf_line_in_of e perimeter i = keyword "perimeter" ∷ pair i ∷ []
rndf_line_in_of e num_perimeterpoints n = keyword "num_perimeterpoints" ∷ integer n ∷ []
rndf_line_in_of e end_perimeter v = keyword "end_perimeter" ∷ []
rndf_line_in_of e spot i = keyword "spot" ∷ pair i ∷ []
rndf_line_in_of e spot_width_of n = keyword "spot_width" ∷ integer n ∷ []
rndf_line_in_of e end_spot v = keyword "end_spot" ∷ []
rndf_line_in_of e end_file_of v = keyword "end_file" ∷ []
rndf_line_in_of e point p = triple p.id ∷ coordinate p.position.latitude ∷ coordinate p.position.longitude ∷ []

-- in the present edition
abbrev pub the_rndf_line_of : (k : Kind) → Says Field k → List Said
the_rndf_line_of = rndf_line_in_of march
