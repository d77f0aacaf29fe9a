-- The RNDF's table fits the RNDF's places: a computed test over every row; in each edition, with L8's rule and without. Assumes nothing.
use mathlib.Core.Path.{◌≡◌, refl}
use mathlib.Core.Option.{Option, none, some}
use mathlib.Core.Bool.{true}
use Prim.Native.Nat.{zero, suc}
use lib.Dec.{T, ltb}
use lib.ListN.{get_or, length}
use Rattle.terms.proofs.Computed.{every}
use Rattle.grammar.specs.Statements.{Kind, Says, RNDF_name_of, num_segments, num_zones, format_version_of, creation_date_of, segment, num_lanes, segment_name_of, end_segment, lane, num_waypoints, lane_width_of, left_boundary_of, right_boundary_of, checkpoint, stop, exit, end_lane_of, zone, num_spots, zone_name_of, end_zone, perimeter, num_perimeterpoints, end_perimeter, spot, spot_width_of, end_spot, end_file_of, point}
use Rattle.grammar.specs.Editions.{march}
use Rattle.grammar.specs.Network.{Under, under}
use Rattle.grammar.specs.Places.{rndf_by, rndf, Base, opts, due_in, name_due, num_segments_due, num_zones_due, first_segment_due, part_due, num_lanes_due, first_lane_due, lane_due, num_waypoints_due, first_waypoint_due, waypoint_due, num_spots_due, perimeter_due, num_perimeterpoints_due, first_perimeterpoint_due, perimeterpoint_due, spot_due, first_of_spot_due, second_of_spot_due, end_spot_due}
use Rattle.grammar.specs.PlaceTable.{rndf_table_of, cell}
use Rattle.grammar.specs.PlaceRows.{kinds, kind_row, rndf_row, rndf_stem}
use Rattle.grammar.proofs.Tabled.{fits, Tabled}

pub coded : (k : Kind) → get_or kinds (kind_row k) RNDF_name_of ≡ k
coded RNDF_name_of = refl
coded num_segments = refl
coded num_zones = refl
coded format_version_of = refl
coded creation_date_of = refl
coded segment = refl
coded num_lanes = refl
coded segment_name_of = refl
coded end_segment = refl
coded lane = refl
coded num_waypoints = refl
coded lane_width_of = refl
coded left_boundary_of = refl
coded right_boundary_of = refl
coded checkpoint = refl
coded stop = refl
coded exit = refl
coded end_lane_of = refl
coded zone = refl
coded num_spots = refl
coded zone_name_of = refl
coded end_zone = refl
coded perimeter = refl
coded num_perimeterpoints = refl
coded end_perimeter = refl
coded spot = refl
coded spot_width_of = refl
coded end_spot = refl
coded end_file_of = refl
coded point = refl

pub short : (k : Kind) → T (ltb (kind_row k) (length kinds))
short RNDF_name_of = tt
short num_segments = tt
short num_zones = tt
short format_version_of = tt
short creation_date_of = tt
short segment = tt
short num_lanes = tt
short segment_name_of = tt
short end_segment = tt
short lane = tt
short num_waypoints = tt
short lane_width_of = tt
short left_boundary_of = tt
short right_boundary_of = tt
short checkpoint = tt
short stop = tt
short exit = tt
short end_lane_of = tt
short zone = tt
short num_spots = tt
short zone_name_of = tt
short end_zone = tt
short perimeter = tt
short num_perimeterpoints = tt
short end_perimeter = tt
short spot = tt
short spot_width_of = tt
short end_spot = tt
short end_file_of = tt
short point = tt

pub stems : (n : Option Base) → T (ltb (rndf_stem n) 128)
stems none = tt
stems (some name_due) = tt
stems (some num_segments_due) = tt
stems (some (num_zones_due o)) = tt
stems (some (first_segment_due o z)) = tt
stems (some (part_due m o z)) = tt
stems (some (num_lanes_due m o z)) = tt
stems (some (first_lane_due m o z l)) = tt
stems (some (lane_due m o z n l)) = tt
stems (some (num_waypoints_due m o z n l)) = tt
stems (some (first_waypoint_due m o z n l w)) = tt
stems (some (waypoint_due m o z n l k w)) = tt
stems (some (num_spots_due m z)) = tt
stems (some (perimeter_due m z s)) = tt
stems (some (num_perimeterpoints_due m z s)) = tt
stems (some (first_perimeterpoint_due m z s p)) = tt
stems (some (perimeterpoint_due m z s k p)) = tt
stems (some (spot_due m z n s)) = tt
stems (some (first_of_spot_due m z n s)) = tt
stems (some (second_of_spot_due m z n s)) = tt
stems (some (end_spot_due m z n s)) = tt

module _ (N : Type 0) where
  pub few : (b : Base) → T (ltb (length (opts N b)) 99)
  few name_due = tt
  few num_segments_due = tt
  few (num_zones_due o) = tt
  few (first_segment_due o z) = tt
  few (part_due m (suc o) z) = tt
  few (part_due m zero (suc z)) = tt
  few (part_due m zero zero) = tt
  few (num_lanes_due m o z) = tt
  few (first_lane_due m o z l) = tt
  few (lane_due m o z n (suc l)) = tt
  few (lane_due m o z n zero) = tt
  few (num_waypoints_due m o z n l) = tt
  few (first_waypoint_due m o z n l w) = tt
  few (waypoint_due m o z n l k (suc w)) = tt
  few (waypoint_due m o z n l k zero) = tt
  few (num_spots_due m z) = tt
  few (perimeter_due m z s) = tt
  few (num_perimeterpoints_due m z s) = tt
  few (first_perimeterpoint_due m z s p) = tt
  few (perimeterpoint_due m z s k (suc p)) = tt
  few (perimeterpoint_due m z s k zero) = tt
  few (spot_due m z n (suc s)) = tt
  few (spot_due m z n zero) = tt
  few (first_of_spot_due m z n s) = tt
  few (second_of_spot_due m z n s) = tt
  few (end_spot_due m z n s) = tt

  module _ (by : Under) where
    pub beside : (b : Base) → every (fits (rndf_by N by) rndf_table_of rndf_row kind_row b) kinds ≡ true
    unfolding rndf_table_of
    beside name_due = refl
    beside num_segments_due = refl
    beside (num_zones_due o) = refl
    beside (first_segment_due o z) = refl
    beside (part_due m (suc o) z) = refl
    beside (part_due m zero (suc z)) = refl
    beside (part_due m zero zero) = refl
    beside (num_lanes_due m o z) = refl
    beside (first_lane_due m o z l) = refl
    beside (lane_due m o z n (suc l)) = refl
    beside (lane_due m o z n zero) = refl
    beside (num_waypoints_due m o z n l) = refl
    beside (first_waypoint_due m o z n l w) = refl
    beside (waypoint_due m o z n l k (suc w)) = refl
    beside (waypoint_due m o z n l k zero) = refl
    beside (num_spots_due m z) = refl
    beside (perimeter_due m z s) = refl
    beside (num_perimeterpoints_due m z s) = refl
    beside (first_perimeterpoint_due m z s p) = refl
    beside (perimeterpoint_due m z s k (suc p)) = refl
    beside (perimeterpoint_due m z s k zero) = refl
    beside (spot_due m z n (suc s)) = refl
    beside (spot_due m z n zero) = refl
    beside (first_of_spot_due m z n s) = refl
    beside (second_of_spot_due m z n s) = refl
    beside (end_spot_due m z n s) = refl

    pub leads : (b : Base) (v : Says N (due_in N by.edition b).on) → cell rndf_table_of (rndf_row b) (kind_row (due_in N by.edition b).on) ≡ rndf_stem ((due_in N by.edition b).then v)
    unfolding rndf_table_of
    leads name_due v = refl
    leads num_segments_due v = refl
    leads (num_zones_due o) v = refl
    leads (first_segment_due o z) v = refl
    leads (part_due m (suc o) z) v = refl
    leads (part_due m zero (suc z)) v = refl
    leads (part_due m zero zero) v = refl
    leads (num_lanes_due m o z) v = refl
    leads (first_lane_due m o z l) v = refl
    leads (lane_due m o z n (suc l)) v = refl
    leads (lane_due m o z n zero) v = refl
    leads (num_waypoints_due m o z n l) v = refl
    leads (first_waypoint_due m o z n l w) v = refl
    leads (waypoint_due m o z n l k (suc w)) v = refl
    leads (waypoint_due m o z n l k zero) v = refl
    leads (num_spots_due m z) v = refl
    leads (perimeter_due m z s) v = refl
    leads (num_perimeterpoints_due m z s) v = refl
    leads (first_perimeterpoint_due m z s p) v = refl
    leads (perimeterpoint_due m z s k (suc p)) v = refl
    leads (perimeterpoint_due m z s k zero) v = refl
    leads (spot_due m z n (suc s)) v = refl
    leads (spot_due m z n zero) v = refl
    leads (first_of_spot_due m z n s) v = refl
    leads (second_of_spot_due m z n s) v = refl
    leads (end_spot_due m z n s) v = refl

    abbrev pub rndf-tabled-by : Tabled (rndf_by N by)
    rndf-tabled-by = record { kinds = kinds; code = kind_row; first = RNDF_name_of; coded = coded; short = short; row = rndf_row; stem = rndf_stem; table = rndf_table_of; few = few; beside = beside; leads = leads; stems = stems }

  -- in the present edition, with it
  abbrev pub rndf-tabled : Tabled (rndf N)
  rndf-tabled = rndf-tabled-by (under march true)
