-- Executable: the places of an RNDF: what may stand at each, and the place after it. Document 01, "The order of an RNDF". Assumes nothing.
use Rattle.std.specs.Prelude.{List, [], ◌∷◌, Bool, true, false, ◌&&◌, ℕ, zero, suc, pred, T}
use Rattle.std.proofs.Math.Option.{Option, none, some}
use Rattle.terms.specs.Words.{pick}
use Rattle.grammar.specs.Machine.{Opt, Due, Machine, lacks, distinct}
use Rattle.grammar.specs.Forms.{Form, tested, free}
use Rattle.grammar.specs.Choices.{opts as row}
use Rattle.grammar.specs.Statements.{Kind, RNDF_name_of, num_segments, num_zones, format_version_of, creation_date_of, segment, num_lanes, segment_name_of, end_segment, lane, num_waypoints, lane_width_of, left_boundary_of, right_boundary_of, checkpoint, stop, exit, end_lane_of, zone, num_spots, zone_name_of, end_zone, perimeter, num_perimeterpoints, end_perimeter, spot, spot_width_of, end_spot, end_file_of, point, Says, lines}
use Rattle.grammar.specs.Editions.{Edition, march}
use Rattle.grammar.specs.Network.{Under, under}
use Rattle.grammar.specs.Permitted.{counted, upto, spots_of, the_number_of, the_part_of, the_point_of, file_row_of, segment_row_of, lane_row, zone_row_of, perimeter_row, spot_row_of}

-- what is due, with the identifier m, n, k that is due, and how much is owed after the open part: o segments, z zones, l lanes, w waypoints, s spots, p perimeter points; at a `first`, how many there are in all
-- (`part_due`: a segment, a zone or `end_file`; `lane_due`: a lane or `end_segment`; and so on: owed nothing, the end is due)
pub data Base : Type 0 where
  name_due num_segments_due : Base
  num_zones_due : (o : ℕ) → Base
  first_segment_due : (o z : ℕ) → Base
  part_due num_lanes_due : (m o z : ℕ) → Base
  first_lane_due : (m o z l : ℕ) → Base
  lane_due num_waypoints_due : (m o z n l : ℕ) → Base
  first_waypoint_due : (m o z n l w : ℕ) → Base
  waypoint_due : (m o z n l k w : ℕ) → Base
  num_spots_due : (m z : ℕ) → Base
  perimeter_due num_perimeterpoints_due : (m z s : ℕ) → Base
  first_perimeterpoint_due : (m z s p : ℕ) → Base
  perimeterpoint_due : (m z s k p : ℕ) → Base
  spot_due first_of_spot_due second_of_spot_due end_spot_due : (m z n s : ℕ) → Base

-- the second flag of a row
abbrev pub second : List Bool → Bool
second [] = true
second (w ∷ []) = true
second (w ∷ c ∷ g) = c

-- L8: "A spot must have its checkpoint": it is the second option of a spot
abbrev pub marked : Base → List Bool → Bool
marked name_due g = true
marked num_segments_due g = true
marked (num_zones_due o) g = true
marked (first_segment_due o z) g = true
marked (part_due m o z) g = true
marked (num_lanes_due m o z) g = true
marked (first_lane_due m o z l) g = true
marked (lane_due m o z n l) g = true
marked (num_waypoints_due m o z n l) g = true
marked (first_waypoint_due m o z n l w) g = true
marked (waypoint_due m o z n l k w) g = true
marked (num_spots_due m z) g = true
marked (perimeter_due m z s) g = true
marked (num_perimeterpoints_due m z s) g = true
marked (first_perimeterpoint_due m z s p) g = true
marked (perimeterpoint_due m z s k p) g = true
marked (spot_due m z n s) g = true
marked (first_of_spot_due m z n s) g = second g
marked (second_of_spot_due m z n s) g = true
marked (end_spot_due m z n s) g = true

module _ (N : Type 0) where
  abbrev pub opts : Base → List (Opt Kind (Says N))
  opts name_due = []
  opts num_segments_due = []
  opts (num_zones_due o) = []
  opts (first_segment_due o z) = row (lines N) (file_row_of N)
  opts (part_due m o z) = []
  opts (num_lanes_due m o z) = []
  opts (first_lane_due m o z l) = row (lines N) (segment_row_of N)
  opts (lane_due m o z n l) = []
  opts (num_waypoints_due m o z n l) = []
  opts (first_waypoint_due m o z n l w) = row (lines N) (lane_row N m n w)
  opts (waypoint_due m o z n l k w) = []
  opts (num_spots_due m z) = []
  opts (perimeter_due m z s) = row (lines N) (zone_row_of N)
  opts (num_perimeterpoints_due m z s) = []
  opts (first_perimeterpoint_due m z s p) = row (lines N) (perimeter_row N m p)
  opts (perimeterpoint_due m z s k p) = []
  opts (spot_due m z n s) = []
  opts (first_of_spot_due m z n s) = row (lines N) (spot_row_of N m n)
  opts (second_of_spot_due m z n s) = []
  opts (end_spot_due m z n s) = []

  abbrev pub D : Type 0
  D = Due Kind (Says N) Base

  abbrev pub wait : (k : Kind) → Form (Says N k) → (Says N k → Base) → D
  wait k F b = record { on = k; test = tested F; then = λ v. some (b v) }

  abbrev nothing : Form (Unit {0})
  nothing = free (Unit {0})

  abbrev pub due_in : Edition → Base → D
  due_in e name_due = wait RNDF_name_of (free N) (λ v. num_segments_due)
  due_in e num_segments_due = wait num_segments counted num_zones_due
  due_in e (num_zones_due o) = wait num_zones (upto o) (first_segment_due o)
  due_in e (first_segment_due o z) = wait segment (the_number_of 1) (λ v. num_lanes_due 1 (pred o) z)
  due_in e (part_due m (suc o) z) = wait segment (the_number_of m) (λ v. num_lanes_due m o z)
  due_in e (part_due m zero (suc z)) = wait zone (the_number_of m) (λ v. num_spots_due m z)
  due_in e (part_due m zero zero) = record { on = end_file_of; test = tested nothing; then = λ v. none }
  due_in e (num_lanes_due m o z) = wait num_lanes counted (first_lane_due m o z)
  due_in e (first_lane_due m o z l) = wait lane (the_part_of m 1) (λ v. num_waypoints_due m o z 1 (pred l))
  due_in e (lane_due m o z n zero) = wait end_segment nothing (λ v. part_due (suc m) o z)
  due_in e (lane_due m o z n (suc l)) = wait lane (the_part_of m n) (λ v. num_waypoints_due m o z n l)
  due_in e (num_waypoints_due m o z n l) = wait num_waypoints counted (first_waypoint_due m o z n l)
  due_in e (first_waypoint_due m o z n l w) = wait point (the_point_of m n 1) (λ v. waypoint_due m o z n l 2 (pred w))
  due_in e (waypoint_due m o z n l k zero) = wait end_lane_of nothing (λ v. lane_due m o z (suc n) l)
  due_in e (waypoint_due m o z n l k (suc w)) = wait point (the_point_of m n k) (λ v. waypoint_due m o z n l (suc k) w)
  due_in e (num_spots_due m z) = wait num_spots (spots_of e) (perimeter_due m z)
  due_in e (perimeter_due m z s) = wait perimeter (the_part_of m 0) (λ v. num_perimeterpoints_due m z s)
  due_in e (num_perimeterpoints_due m z s) = wait num_perimeterpoints counted (first_perimeterpoint_due m z s)
  due_in e (first_perimeterpoint_due m z s p) = wait point (the_point_of m 0 1) (λ v. perimeterpoint_due m z s 2 (pred p))
  due_in e (perimeterpoint_due m z s k zero) = wait end_perimeter nothing (λ v. spot_due m z 1 s)
  due_in e (perimeterpoint_due m z s k (suc p)) = wait point (the_point_of m 0 k) (λ v. perimeterpoint_due m z s (suc k) p)
  due_in e (spot_due m z n zero) = wait end_zone nothing (λ v. part_due (suc m) 0 z)
  due_in e (spot_due m z n (suc s)) = wait spot (the_part_of m n) (λ v. first_of_spot_due m z n s)
  due_in e (first_of_spot_due m z n s) = wait point (the_point_of m n 1) (λ v. second_of_spot_due m z n s)
  due_in e (second_of_spot_due m z n s) = wait point (the_point_of m n 2) (λ v. end_spot_due m z n s)
  due_in e (end_spot_due m z n s) = wait end_spot nothing (λ v. spot_due m z (suc n) s)

  -- in the present edition
  abbrev pub due : Base → D
  due = due_in march

  -- no due statement is an option of its place
  pub apart : (e : Edition) (b : Base) → T (lacks (lines N) (due_in e b).on (opts b) && distinct (lines N) (opts b))
  apart e name_due = tt
  apart e num_segments_due = tt
  apart e (num_zones_due o) = tt
  apart e (first_segment_due o z) = tt
  apart e (part_due m (suc o) z) = tt
  apart e (part_due m zero (suc z)) = tt
  apart e (part_due m zero zero) = tt
  apart e (num_lanes_due m o z) = tt
  apart e (first_lane_due m o z l) = tt
  apart e (lane_due m o z n zero) = tt
  apart e (lane_due m o z n (suc l)) = tt
  apart e (num_waypoints_due m o z n l) = tt
  apart e (first_waypoint_due m o z n l w) = tt
  apart e (waypoint_due m o z n l k zero) = tt
  apart e (waypoint_due m o z n l k (suc w)) = tt
  apart e (num_spots_due m z) = tt
  apart e (perimeter_due m z s) = tt
  apart e (num_perimeterpoints_due m z s) = tt
  apart e (first_perimeterpoint_due m z s p) = tt
  apart e (perimeterpoint_due m z s k zero) = tt
  apart e (perimeterpoint_due m z s k (suc p)) = tt
  apart e (spot_due m z n zero) = tt
  apart e (spot_due m z n (suc s)) = tt
  apart e (first_of_spot_due m z n s) = tt
  apart e (second_of_spot_due m z n s) = tt
  apart e (end_spot_due m z n s) = tt

  -- the places in an edition, where a spot must have its checkpoint, and where it may be without
  abbrev pub rndf_by : Under → Machine (lines N)
  rndf_by by = record { Base = Base; opts = opts; due = due_in by.edition; ready = λ b g. pick by.strict (marked b g) true; apart = apart by.edition }

  abbrev pub rndf : Machine (lines N)
  rndf = rndf_by (under march true)
