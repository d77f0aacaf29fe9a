-- Executable: the forms of the lines that may stand at a place, from the place alone: first the due statement, then the options that are still open, in the table's order. Assumes nothing.
use Rattle.std.specs.Prelude.{List, [], ◌∷◌, Bool, true, false, ◌&&◌, zero, suc, ◌-◌}
use Rattle.line.specs.Content.{Field}
use Rattle.law.specs.Network.{largest}
use Rattle.grammar.specs.Editions.{Edition}
use Rattle.grammar.specs.Language.{Lang}
use Rattle.grammar.specs.Machine.{Opt, Machine, over, inside, Place}
use Rattle.grammar.specs.Network.{Under}
use Rattle.grammar.specs.Places.{rndf_by, Base, name_due, num_segments_due, num_zones_due, first_segment_due, part_due, num_lanes_due, first_lane_due, lane_due, num_waypoints_due, first_waypoint_due, waypoint_due, num_spots_due, perimeter_due, num_perimeterpoints_due, first_perimeterpoint_due, perimeterpoint_due, spot_due, first_of_spot_due, second_of_spot_due, end_spot_due}
use Rattle.grammar.specs.MissionPlaces.{mdf}
use Rattle.grammar.specs.MissionPlaces as M-at
use Rattle.expected_law.specs.Expected.{a_name, Form}
use Rattle.expected_law.specs.Items.{from_to, counted, the_the_part_of, own, an_entry, keyed, point_form, boundaries, fewest, file_forms, limit_form}

-- ## RNDF: one form for each option of a base, in their order
module _ (e : Edition) where
  abbrev pub rndf_options : Base → List Form
  rndf_options name_due = []
  rndf_options num_segments_due = []
  rndf_options (num_zones_due o) = []
  rndf_options (first_segment_due o z) = file_forms
  rndf_options (part_due m o z) = []
  rndf_options (num_lanes_due m o z) = []
  rndf_options (first_lane_due m o z l) = keyed "segment_name" (a_name ∷ []) ∷ []
  rndf_options (lane_due m o z n l) = []
  rndf_options (num_waypoints_due m o z n l) = []
  rndf_options (first_waypoint_due m o z n l w) =
      keyed "lane_width" (from_to 0 largest ∷ []) ∷ keyed "left_boundary" (boundaries e ∷ []) ∷ keyed "right_boundary" (boundaries e ∷ [])
      ∷ keyed "checkpoint" (own m n 1 w ∷ counted ∷ []) ∷ keyed "stop" (own m n 1 w ∷ []) ∷ keyed "exit" (own m n 1 w ∷ an_entry 0 ∷ []) ∷ []
  rndf_options (waypoint_due m o z n l k w) = []
  rndf_options (num_spots_due m z) = []
  rndf_options (perimeter_due m z s) = keyed "zone_name" (a_name ∷ []) ∷ []
  rndf_options (num_perimeterpoints_due m z s) = []
  rndf_options (first_perimeterpoint_due m z s p) = keyed "exit" (own m 0 1 p ∷ an_entry 1 ∷ []) ∷ []
  rndf_options (perimeterpoint_due m z s k p) = []
  rndf_options (spot_due m z n s) = []
  rndf_options (first_of_spot_due m z n s) = keyed "spot_width" (counted ∷ []) ∷ keyed "checkpoint" (own m n 2 2 ∷ counted ∷ []) ∷ []
  rndf_options (second_of_spot_due m z n s) = []
  rndf_options (end_spot_due m z n s) = []

  -- the form of what is due
  abbrev pub rndf_due : Base → Form
  rndf_due name_due = keyed "RNDF_name" (a_name ∷ [])
  rndf_due num_segments_due = keyed "num_segments" (counted ∷ [])
  rndf_due (num_zones_due o) = keyed "num_zones" (from_to 0 (largest - o) ∷ [])
  rndf_due (first_segment_due o z) = keyed "segment" (from_to 1 1 ∷ [])
  rndf_due (part_due m (suc o) z) = keyed "segment" (from_to m m ∷ [])
  rndf_due (part_due m zero (suc z)) = keyed "zone" (from_to m m ∷ [])
  rndf_due (part_due m zero zero) = keyed "end_file" []
  rndf_due (num_lanes_due m o z) = keyed "num_lanes" (counted ∷ [])
  rndf_due (first_lane_due m o z l) = keyed "lane" (the_the_part_of m 1 ∷ [])
  rndf_due (lane_due m o z n zero) = keyed "end_segment" []
  rndf_due (lane_due m o z n (suc l)) = keyed "lane" (the_the_part_of m n ∷ [])
  rndf_due (num_waypoints_due m o z n l) = keyed "num_waypoints" (counted ∷ [])
  rndf_due (first_waypoint_due m o z n l w) = point_form m n 1
  rndf_due (waypoint_due m o z n l k zero) = keyed "end_lane" []
  rndf_due (waypoint_due m o z n l k (suc w)) = point_form m n k
  rndf_due (num_spots_due m z) = keyed "num_spots" (from_to (fewest e) largest ∷ [])
  rndf_due (perimeter_due m z s) = keyed "perimeter" (the_the_part_of m 0 ∷ [])
  rndf_due (num_perimeterpoints_due m z s) = keyed "num_perimeterpoints" (counted ∷ [])
  rndf_due (first_perimeterpoint_due m z s p) = point_form m 0 1
  rndf_due (perimeterpoint_due m z s k zero) = keyed "end_perimeter" []
  rndf_due (perimeterpoint_due m z s k (suc p)) = point_form m 0 k
  rndf_due (spot_due m z n zero) = keyed "end_zone" []
  rndf_due (spot_due m z n (suc s)) = keyed "spot" (the_the_part_of m n ∷ [])
  rndf_due (first_of_spot_due m z n s) = point_form m n 1
  rndf_due (second_of_spot_due m z n s) = point_form m n 2
  rndf_due (end_spot_due m z n s) = keyed "end_spot" []

-- ## MDF
abbrev pub mdf_options : M-at.Base → List Form
mdf_options M-at.name_due = []
mdf_options M-at.RNDF_due = []
mdf_options M-at.checkpoints_due = file_forms
mdf_options M-at.num_checkpoints_due = []
mdf_options M-at.speed_limits_due = []
mdf_options M-at.num_speed_limits_due = []
mdf_options M-at.end_file_due = []
mdf_options (M-at.goal_due g) = []
mdf_options (M-at.limit_due l) = []

abbrev pub mdf_due : M-at.Base → Form
mdf_due M-at.name_due = keyed "MDF_name" (a_name ∷ [])
mdf_due M-at.RNDF_due = keyed "RNDF" (a_name ∷ [])
mdf_due M-at.checkpoints_due = keyed "checkpoints" []
mdf_due M-at.num_checkpoints_due = keyed "num_checkpoints" (counted ∷ [])
mdf_due M-at.speed_limits_due = keyed "speed_limits" []
mdf_due M-at.num_speed_limits_due = keyed "num_speed_limits" (counted ∷ [])
mdf_due M-at.end_file_due = keyed "end_file" []
mdf_due (M-at.goal_due zero) = keyed "end_checkpoints" []
mdf_due (M-at.goal_due (suc g)) = counted ∷ []
mdf_due (M-at.limit_due zero) = keyed "end_speed_limits" []
mdf_due (M-at.limit_due (suc l)) = limit_form

-- ## At a place
-- of an option: its form, unless it may come once only and was given; of the due statement: its form, if what was given is enough for it
abbrev pub if_open : (given : Bool) → Form → List Form → List Form
if_open true form rest = rest
if_open false form rest = form ∷ rest

abbrev pub if_ready : (ready : Bool) → Form → List Form → List Form
if_ready true form rest = form ∷ rest
if_ready false form rest = rest

abbrev pub open_options : (L : Lang) → List (Opt L.Kind L.Pay) → List Bool → List Form → List Form
open_options L [] g forms = []
open_options L (o ∷ row) [] forms = []
open_options L (o ∷ row) (f ∷ g) [] = []
open_options L (o ∷ row) (f ∷ g) (form ∷ forms) = if_open (o.once && f) form (open_options L row g forms)

module _ {L : Lang} (A : Machine L) (options : A.Base → List Form) (due : A.Base → Form) where
  unfoldable pub listed : Place A → List Form
  listed over = []
  listed (inside b g) = if_ready (A.ready b g) (due b) (open_options L (A.opts b) g (options b))

abbrev pub rndf_listed : (by : Under) → Place (rndf_by Field by) → List Form
rndf_listed by = listed (rndf_by Field by) (rndf_options by.edition) (rndf_due by.edition)

abbrev pub mdf_listed : Place (mdf Field) → List Form
mdf_listed = listed (mdf Field) mdf_options mdf_due
