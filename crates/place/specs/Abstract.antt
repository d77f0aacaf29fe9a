-- Executable: the place of the grammar's machine that a place of the program stands for, and back; an answer by its number and its place. Assumes nothing.
use Rattle.std.specs.Prelude.{List, [], ◌∷◌, Bool, false, eqb, get_or}
use Rattle.terms.specs.Words.{pick}
use Rattle.grammar.specs.Machine.{Out, next, refuse, Stand, over, inside}
use Rattle.grammar.specs.Places.{Base, name_due, num_segments_due, num_zones_due, first_segment_due, part_due, num_lanes_due, first_lane_due, lane_due, num_waypoints_due, first_waypoint_due, waypoint_due, num_spots_due, perimeter_due, num_perimeterpoints_due, first_perimeterpoint_due, perimeterpoint_due, spot_due, first_of_spot_due, second_of_spot_due, end_spot_due}
use Rattle.place_table.specs.RndfRows as rows
use Rattle.place.specs.declared.Open.TheVariants as op
use Rattle.place.specs.declared.Given.{Given}
use Rattle.place.specs.declared.Place.{Place}
use Rattle.place.specs.Step.{placed, with_given, major_of, minor_of, Outcome, Next, Refused}

-- an answer: the next place, or document 01's number
abbrev pub seen : Outcome → Out Place
seen (Next p) = next p
seen (Refused c) = refuse c

-- ## From the machine's places
abbrev pub core : Base → Place
core name_due = placed op.File rows.name_due 0 0 0 0 0
core num_segments_due = placed op.File rows.num_segments_due 0 0 0 0 0
core (num_zones_due o) = placed op.File rows.num_zones_due 0 o 0 0 0
core (first_segment_due o z) = placed op.File rows.first_segment_due 1 o z 0 0
core (part_due m o z) = placed op.File rows.segment_due m o z 0 0
core (num_lanes_due m o z) = placed (op.Segment m) rows.num_lanes_due 0 o z 0 0
core (first_lane_due m o z l) = placed (op.Segment m) rows.first_lane_due 1 o z l 0
core (lane_due m o z n l) = placed (op.Segment m) rows.lane_due n o z l 0
core (num_waypoints_due m o z n l) = placed (op.Lane m n) rows.num_waypoints_due 0 o z l 0
core (first_waypoint_due m o z n l w) = placed (op.Lane m n) rows.first_waypoint_due 1 o z l w
core (waypoint_due m o z n l k w) = placed (op.Lane m n) rows.waypoint_due k o z l w
core (num_spots_due m z) = placed (op.Zone m) rows.num_spots_due 0 0 z 0 0
core (perimeter_due m z s) = placed (op.Zone m) rows.perimeter_due 0 0 z s 0
core (num_perimeterpoints_due m z s) = placed (op.Perimeter m) rows.num_perimeterpoints_due 0 0 z s 0
core (first_perimeterpoint_due m z s p) = placed (op.Perimeter m) rows.first_perimeterpoint_due 1 0 z s p
core (perimeterpoint_due m z s k p) = placed (op.Perimeter m) rows.perimeterpoint_due k 0 z s p
core (spot_due m z n s) = placed (op.Zone m) rows.spot_due n 0 z s 0
core (first_of_spot_due m z n s) = placed (op.Spot m n) rows.first_of_spot_due 1 0 z s 2
core (second_of_spot_due m z n s) = placed (op.Spot m n) rows.second_of_spot_due 2 0 z s 1
core (end_spot_due m z n s) = placed (op.Spot m n) rows.end_spot_due 3 0 z s 0

abbrev pub marks : List Bool → Given
marks g = record { first = get_or g 0 false; second = get_or g 1 false; third = get_or g 2 false }

abbrev pub place_of : Stand Base → Place
place_of over = placed op.File rows.over 0 0 0 0 0
place_of (inside b g) = with_given (core b) (marks g)

-- the flags of a base: those of its single options come first; one that may repeat has none
abbrev pub flags : Base → Bool → Bool → Bool → List Bool
flags name_due x y u = []
flags num_segments_due x y u = []
flags (num_zones_due o) x y u = []
flags (first_segment_due o z) x y u = x ∷ y ∷ []
flags (part_due m o z) x y u = []
flags (num_lanes_due m o z) x y u = []
flags (first_lane_due m o z l) x y u = x ∷ []
flags (lane_due m o z n l) x y u = []
flags (num_waypoints_due m o z n l) x y u = []
flags (first_waypoint_due m o z n l w) x y u = x ∷ y ∷ u ∷ false ∷ false ∷ false ∷ []
flags (waypoint_due m o z n l k w) x y u = []
flags (num_spots_due m z) x y u = []
flags (perimeter_due m z s) x y u = x ∷ []
flags (num_perimeterpoints_due m z s) x y u = []
flags (first_perimeterpoint_due m z s p) x y u = false ∷ []
flags (perimeterpoint_due m z s k p) x y u = []
flags (spot_due m z n s) x y u = []
flags (first_of_spot_due m z n s) x y u = x ∷ y ∷ []
flags (second_of_spot_due m z n s) x y u = []
flags (end_spot_due m z n s) x y u = []

-- ## To the machine's places, by the row
unfoldable pub abs_of : Place → Stand Base
abs_of p =
    pick (eqb p.row rows.name_due) (inside name_due ([])) (
    pick (eqb p.row rows.num_segments_due) (inside num_segments_due ([])) (
    pick (eqb p.row rows.num_zones_due) (inside (num_zones_due p.segments) ([])) (
    pick (eqb p.row rows.first_segment_due) (inside (first_segment_due p.segments p.zones) (p.given.first ∷ p.given.second ∷ [])) (
    pick (eqb p.row rows.segment_due) (inside (part_due p.due p.segments p.zones) ([])) (
    pick (eqb p.row rows.num_lanes_due) (inside (num_lanes_due (major_of p.part) p.segments p.zones) ([])) (
    pick (eqb p.row rows.first_lane_due) (inside (first_lane_due (major_of p.part) p.segments p.zones p.parts) (p.given.first ∷ [])) (
    pick (eqb p.row rows.lane_due) (inside (lane_due (major_of p.part) p.segments p.zones p.due p.parts) ([])) (
    pick (eqb p.row rows.num_waypoints_due) (inside (num_waypoints_due (major_of p.part) p.segments p.zones (minor_of p.part) p.parts) ([])) (
    pick (eqb p.row rows.first_waypoint_due) (inside (first_waypoint_due (major_of p.part) p.segments p.zones (minor_of p.part) p.parts p.points) (p.given.first ∷ p.given.second ∷ p.given.third ∷ false ∷ false ∷ false ∷ [])) (
    pick (eqb p.row rows.waypoint_due) (inside (waypoint_due (major_of p.part) p.segments p.zones (minor_of p.part) p.parts p.due p.points) ([])) (
    pick (eqb p.row rows.num_spots_due) (inside (num_spots_due (major_of p.part) p.zones) ([])) (
    pick (eqb p.row rows.perimeter_due) (inside (perimeter_due (major_of p.part) p.zones p.parts) (p.given.first ∷ [])) (
    pick (eqb p.row rows.num_perimeterpoints_due) (inside (num_perimeterpoints_due (major_of p.part) p.zones p.parts) ([])) (
    pick (eqb p.row rows.first_perimeterpoint_due) (inside (first_perimeterpoint_due (major_of p.part) p.zones p.parts p.points) (false ∷ [])) (
    pick (eqb p.row rows.perimeterpoint_due) (inside (perimeterpoint_due (major_of p.part) p.zones p.parts p.due p.points) ([])) (
    pick (eqb p.row rows.spot_due) (inside (spot_due (major_of p.part) p.zones p.due p.parts) ([])) (
    pick (eqb p.row rows.first_of_spot_due) (inside (first_of_spot_due (major_of p.part) p.zones (minor_of p.part) p.parts) (p.given.first ∷ p.given.second ∷ [])) (
    pick (eqb p.row rows.second_of_spot_due) (inside (second_of_spot_due (major_of p.part) p.zones (minor_of p.part) p.parts) ([])) (
    pick (eqb p.row rows.end_spot_due) (inside (end_spot_due (major_of p.part) p.zones (minor_of p.part) p.parts) ([])) (
    over))))))))))))))))))))
