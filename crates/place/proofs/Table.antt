-- The row that a place of the program has in the table is the grammar's, and nothing stands behind the end. Assumes nothing.
use mathlib.Core.Path.{◌≡◌, refl, subst}
use mathlib.Core.List.{List}
use mathlib.Core.Bool.{Bool, true}
use Prim.Native.Nat.{zero, suc}
use borrow.Author.Tests.{eqb-true}
use lib.Dec.{T, eqb, ltb→lt}
use Rattle.grammar.specs.Statements.{Kind, RNDF_name_of}
use Rattle.grammar.specs.Machine.{inside}
use Rattle.grammar.specs.Places.{Base, name_due, num_segments_due, num_zones_due, first_segment_due, part_due, num_lanes_due, first_lane_due, lane_due, num_waypoints_due, first_waypoint_due, waypoint_due, num_spots_due, perimeter_due, num_perimeterpoints_due, first_perimeterpoint_due, perimeterpoint_due, spot_due, first_of_spot_due, second_of_spot_due, end_spot_due}
use Rattle.grammar.specs.PlaceTable.{cell, rndf_table_of}
use Rattle.grammar.specs.PlaceRows.{kinds, kind_row, rndf_row}
use Rattle.terms.proofs.Computed.{every-at}
use Rattle.grammar.proofs.RndfTable.{coded, short}
use Rattle.place.specs.Step.{index_of}
use Rattle.place.specs.Abstract.{place_of}

pub row_is : (b : Base) (g : List Bool) → index_of (place_of (inside b g)) ≡ rndf_row b
unfolding index_of
row_is name_due g = refl
row_is num_segments_due g = refl
row_is (num_zones_due o) g = refl
row_is (first_segment_due o z) g = refl
row_is (part_due m (suc o) z) g = refl
row_is (part_due m zero (suc z)) g = refl
row_is (part_due m zero zero) g = refl
row_is (num_lanes_due m o z) g = refl
row_is (first_lane_due m o z l) g = refl
row_is (lane_due m o z n zero) g = refl
row_is (lane_due m o z n (suc l)) g = refl
row_is (num_waypoints_due m o z n l) g = refl
row_is (first_waypoint_due m o z n l w) g = refl
row_is (waypoint_due m o z n l k zero) g = refl
row_is (waypoint_due m o z n l k (suc w)) g = refl
row_is (num_spots_due m z) g = refl
row_is (perimeter_due m z s) g = refl
row_is (num_perimeterpoints_due m z s) g = refl
row_is (first_perimeterpoint_due m z s p) g = refl
row_is (perimeterpoint_due m z s k zero) g = refl
row_is (perimeterpoint_due m z s k (suc p)) g = refl
row_is (spot_due m z n zero) g = refl
row_is (spot_due m z n (suc s)) g = refl
row_is (first_of_spot_due m z n s) g = refl
row_is (second_of_spot_due m z n s) g = refl
row_is (end_spot_due m z n s) g = refl

pub shut : (k : Kind) → cell rndf_table_of 26 (kind_row k) ≡ 255
unfolding rndf_table_of
shut k =
    let P : Kind → Bool = λ k. eqb (cell rndf_table_of 26 (kind_row k)) 255 in
    eqb-true _ _ (subst (λ (j : Kind). P j ≡ true) (coded k) (every-at P kinds (kind_row k) RNDF_name_of refl (ltb→lt (kind_row k) 30 (short k))))
