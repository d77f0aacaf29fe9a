-- The cells one by one: what the program does with each statement that may stand is what the machine does. Assumes nothing.
use mathlib.Core.Path.{◌≡◌, refl, sym, ap, ◌∙◌}
use mathlib.Core.List.{List, [], ◌∷◌}
use mathlib.Core.Bool.{Bool, true, false}
use Prim.Native.Nat.{ℕ, zero, suc, ◌-◌}
use lib.Dec.{T, eqb, ltb}
use Rattle.grammar.specs.Statements.{Kind, Says, lines, PointLine, format_version_of, creation_date_of, segment_name_of, lane_width_of, left_boundary_of, right_boundary_of, checkpoint, stop, exit, zone_name_of, spot_width_of}
use Rattle.grammar.specs.Machine.{Stand, over, inside, clear, lacks}
use Rattle.grammar.specs.Places.{rndf, Base, opts, due, name_due, num_segments_due, num_zones_due, first_segment_due, part_due, num_lanes_due, first_lane_due, lane_due, num_waypoints_due, first_waypoint_due, waypoint_due, num_spots_due, perimeter_due, num_perimeterpoints_due, first_perimeterpoint_due, perimeterpoint_due, spot_due, first_of_spot_due, second_of_spot_due, end_spot_due}
use Rattle.grammar.specs.PlaceTable.{cell, rndf_table_of}
use Rattle.grammar.specs.Forms.{tested}
use Rattle.grammar.specs.Network.{GoodExit, GoodPerimeterExit}
use Rattle.grammar.specs.Permitted.{the_number_of, the_part_of, the_point_of, at_most, counted, own_stop_of, own_checkpoint_of, own_exit_of, exit?, perimeter_exit?}
use Rattle.grammar.proofs.FormLaws.{pick as pick-form}
use Rattle.grammar.specs.PlaceRows.{kind_row}
use Rattle.grammar.proofs.StandLaws.{early, is_over}
use Rattle.grammar.proofs.Tabled.{having, cell-beside}
use Rattle.grammar.proofs.RndfTable.{rndf-tabled}
use Rattle.grammar.proofs.Follows.{Program, Goal, EachOpt, Cells, Fit, fit-pick, line, oline, ontos-judge, by-cell}
use Rattle.statement.specs.declared.Statement.{Statement}
use Rattle.statement.specs.declared.Statement.TheVariants as st
use Rattle.statement.specs.Meaning.{Stretch, meant}
use Rattle.statement.specs.Kinds.{kind_of, of_kind, written}
use Rattle.statement.proofs.Laws.{kind-written, sample}
use Rattle.permitted.specs.Tests.{is_counted, is_at_most, is_up_to, is_the_number, is_the_part, is_the_point, is_own_stop, is_own_checkpoint, is_own_exit, is_perimeter_exit}
use Rattle.place.specs.declared.Place.{Place}
use Rattle.place.specs.Step.{has_of, permits_of, ready_of, after_of, opted_of, index_of, due_of, option_of, by_cell, step_of, refuses_by, refuses_of, over_of, Outcome, Next, Refused}
use Rattle.place.specs.Abstract.{seen, place_of, flags, abs_of}
use Rattle.place.proofs.Table.{row_is, shut}

-- ## What no place reads: which boundary it is
pub settled : (p : Place) (s : Statement) → step_of p s ≡ step_of p (written (meant s))
unfolding step_of by_cell due_of option_of
settled p (st.RndfName a l) = refl
settled p (st.NumSegments n) = refl
settled p (st.NumZones n) = refl
settled p (st.FormatVersion a l) = refl
settled p (st.CreationDate a l) = refl
settled p (st.Segment n) = refl
settled p (st.NumLanes n) = refl
settled p (st.SegmentName a l) = refl
settled p st.EndSegment = refl
settled p (st.Lane m n) = refl
settled p (st.NumWaypoints n) = refl
settled p (st.LaneWidth n) = refl
settled p (st.LeftBoundary b) = refl
settled p (st.RightBoundary b) = refl
settled p (st.Checkpoint i n) = refl
settled p (st.Stop i) = refl
settled p (st.Exit i e) = refl
settled p st.EndLane = refl
settled p (st.Zone n) = refl
settled p (st.NumSpots n) = refl
settled p (st.ZoneName a l) = refl
settled p st.EndZone = refl
settled p (st.Perimeter m n) = refl
settled p (st.NumPerimeterpoints n) = refl
settled p st.EndPerimeter = refl
settled p (st.Spot m n) = refl
settled p (st.SpotWidth n) = refl
settled p st.EndSpot = refl
settled p st.EndFile = refl
settled p (st.Point i a o) = refl

abbrev pub program : Program (rndf Stretch)
program = record {
  St = Statement;
  Pl = Place;
  Ou = Outcome;
  Next = Next;
  Refused = Refused;
  seen = seen;
  seen_next = λ p. refl;
  seen_refused = λ c. refl;
  meant = meant;
  write = of_kind;
  step_of = step_of;
  settled = settled;
  place_of = place_of;
  abs_of = abs_of;
  flags = flags;
  kind_row = kind_row;
  sample = sample;
  refuses_of = refuses_of;
  over_of = over_of;
}

-- ## What is not in the row
by_cell_255 : (p : Place) (s : Statement) → by_cell p s 255 ≡ Refused 5
unfolding by_cell
by_cell_255 p s = refl

none-line : (b : Base) (g : List Bool) (k : Kind) (v : Says Stretch k) → T (lacks (lines Stretch) k (opts Stretch b)) → (k ≡ (due Stretch b).on → ⊥) → step_of (place_of (inside b g)) (of_kind k v) ≡ Refused 5
unfolding step_of
none-line b g k v l n = rw (kind-written k v, row_is b g, cell-beside (rndf Stretch) (rndf-tabled Stretch) b k n, having (rndf Stretch) (opts Stretch b) 1 k l) (by_cell_255 (place_of (inside b g)) (of_kind k v))

over-line : (k : Kind) (v : Says Stretch k) → step_of (place_of over) (of_kind k v) ≡ Refused 5
unfolding step_of index_of
over-line k v = rw (kind-written k v, shut k) (by_cell_255 (place_of over) (of_kind k v))

-- ## The due statements
cleared : (b : Base) → clear (lines Stretch) (opts Stretch b) ≡ flags b false false false
cleared name_due = refl
cleared num_segments_due = refl
cleared (num_zones_due o) = refl
cleared (first_segment_due o z) = refl
cleared (part_due m o z) = refl
cleared (num_lanes_due m o z) = refl
cleared (first_lane_due m o z l) = refl
cleared (lane_due m o z n l) = refl
cleared (num_waypoints_due m o z n l) = refl
cleared (first_waypoint_due m o z n l w) = refl
cleared (waypoint_due m o z n l k w) = refl
cleared (num_spots_due m z) = refl
cleared (perimeter_due m z s) = refl
cleared (num_perimeterpoints_due m z s) = refl
cleared (first_perimeterpoint_due m z s p) = refl
cleared (perimeterpoint_due m z s k p) = refl
cleared (spot_due m z n s) = refl
cleared (first_of_spot_due m z n s) = refl
cleared (second_of_spot_due m z n s) = refl
cleared (end_spot_due m z n s) = refl

-- a point that is the due one has its number
its-number : (m n k : ℕ) (v : PointLine) → T (tested (the_point_of m n k) v) → v.id.z ≡ k
its-number m n k v h = sym (ap (λ (l : PointLine). l.id.z) (pick-form (the_point_of m n k) v h).0)

abbrev to : (b : Base) (g : List Bool) → Says Stretch (due Stretch b).on → ℕ → Place
to b g v row = after_of (place_of (inside b g)) (of_kind (due Stretch b).on v) row

due-line : (b : Base) (x y u : Bool) (v : Says Stretch (due Stretch b).on) → Goal program b (flags b x y u) (due Stretch b).on v
unfolding step_of by_cell due_of index_of rndf_table_of is_counted is_at_most is_up_to is_the_number is_the_part is_the_point is_own_stop is_own_checkpoint is_own_exit is_perimeter_exit
due-line name_due x y u v = line program cleared name_due [] v (to name_due [] v 1) refl (λ h. refl)
due-line num_segments_due x y u v = line program cleared num_segments_due [] v (to num_segments_due [] v 2) refl (λ h. refl)
due-line (num_zones_due o) x y u v = line program cleared (num_zones_due o) [] v (to (num_zones_due o) [] v 3) refl (λ h. refl)
due-line (first_segment_due o z) x y u v = line program cleared (first_segment_due o z) (x ∷ y ∷ []) v (to (first_segment_due o z) (x ∷ y ∷ []) v 7) refl (λ h. rw (sym (pick-form (the_number_of 1) v h).0))
due-line (part_due m (suc o) z) x y u v = line program cleared (part_due m (suc o) z) [] v (to (part_due m (suc o) z) [] v 7) refl (λ h. rw (sym (pick-form (the_number_of m) v h).0))
due-line (part_due m zero (suc z)) x y u v = line program cleared (part_due m zero (suc z)) [] v (to (part_due m zero (suc z)) [] v 15) refl (λ h. rw (sym (pick-form (the_number_of m) v h).0))
due-line (part_due m zero zero) x y u v = line program cleared (part_due m zero zero) [] v (to (part_due m zero zero) [] v 26) refl (λ h. refl)
due-line (num_lanes_due m o z) x y u v = line program cleared (num_lanes_due m o z) [] v (to (num_lanes_due m o z) [] v 8) refl (λ h. refl)
due-line (first_lane_due m o z l) x y u v = line program cleared (first_lane_due m o z l) (x ∷ []) v (to (first_lane_due m o z l) (x ∷ []) v 11) refl (λ h. rw (sym (pick-form (the_part_of m 1) v h).0))
due-line (lane_due m o z n zero) x y u v = line program cleared (lane_due m o z n zero) [] v (to (lane_due m o z n zero) [] v 4) refl (λ h. refl)
due-line (lane_due m o z n (suc l)) x y u v = line program cleared (lane_due m o z n (suc l)) [] v (to (lane_due m o z n (suc l)) [] v 11) refl (λ h. rw (sym (pick-form (the_part_of m n) v h).0))
due-line (num_waypoints_due m o z n l) x y u v = line program cleared (num_waypoints_due m o z n l) [] v (to (num_waypoints_due m o z n l) [] v 12) refl (λ h. refl)
due-line (first_waypoint_due m o z n l w) x y u v = line program cleared (first_waypoint_due m o z n l w) (x ∷ y ∷ u ∷ false ∷ false ∷ false ∷ []) v (to (first_waypoint_due m o z n l w) (x ∷ y ∷ u ∷ false ∷ false ∷ false ∷ []) v 13) refl (λ h. rw (its-number m n 1 v h))
due-line (waypoint_due m o z n l k zero) x y u v = line program cleared (waypoint_due m o z n l k zero) [] v (to (waypoint_due m o z n l k zero) [] v 9) refl (λ h. refl)
due-line (waypoint_due m o z n l k (suc w)) x y u v = line program cleared (waypoint_due m o z n l k (suc w)) [] v (to (waypoint_due m o z n l k (suc w)) [] v 13) refl (λ h. rw (its-number m n k v h))
due-line (num_spots_due m z) x y u v = line program cleared (num_spots_due m z) [] v (to (num_spots_due m z) [] v 16) refl (λ h. refl)
due-line (perimeter_due m z s) x y u v = line program cleared (perimeter_due m z s) (x ∷ []) v (to (perimeter_due m z s) (x ∷ []) v 17) refl (λ h. rw (sym (pick-form (the_part_of m 0) v h).0))
due-line (num_perimeterpoints_due m z s) x y u v = line program cleared (num_perimeterpoints_due m z s) [] v (to (num_perimeterpoints_due m z s) [] v 18) refl (λ h. refl)
due-line (first_perimeterpoint_due m z s p) x y u v = line program cleared (first_perimeterpoint_due m z s p) (false ∷ []) v (to (first_perimeterpoint_due m z s p) (false ∷ []) v 19) refl (λ h. rw (its-number m 0 1 v h))
due-line (perimeterpoint_due m z s k zero) x y u v = line program cleared (perimeterpoint_due m z s k zero) [] v (to (perimeterpoint_due m z s k zero) [] v 21) refl (λ h. refl)
due-line (perimeterpoint_due m z s k (suc p)) x y u v = line program cleared (perimeterpoint_due m z s k (suc p)) [] v (to (perimeterpoint_due m z s k (suc p)) [] v 19) refl (λ h. rw (its-number m 0 k v h))
due-line (spot_due m z n zero) x y u v = line program cleared (spot_due m z n zero) [] v (to (spot_due m z n zero) [] v 4) refl (λ h. refl)
due-line (spot_due m z n (suc s)) x y u v = line program cleared (spot_due m z n (suc s)) [] v (to (spot_due m z n (suc s)) [] v 23) refl (λ h. rw (sym (pick-form (the_part_of m n) v h).0))
due-line (first_of_spot_due m z n s) x y u v = line program cleared (first_of_spot_due m z n s) (x ∷ y ∷ []) v (to (first_of_spot_due m z n s) (x ∷ y ∷ []) v 24) refl (λ h. rw (its-number m n 1 v h))
due-line (second_of_spot_due m z n s) x y u v = line program cleared (second_of_spot_due m z n s) [] v (to (second_of_spot_due m z n s) [] v 25) refl (λ h. rw (its-number m n 2 v h))
due-line (end_spot_due m z n s) x y u v = line program cleared (end_spot_due m z n s) [] v (to (end_spot_due m z n s) [] v 21) refl (λ h. refl)

-- ## The options
opt-lines : (b : Base) (x y u : Bool) → EachOpt program (Goal program b (flags b x y u)) (opts Stretch b)
unfolding step_of by_cell option_of index_of rndf_table_of is_counted is_at_most is_up_to is_the_number is_the_part is_the_point is_own_stop is_own_checkpoint is_own_exit is_perimeter_exit
opt-lines name_due x y u = tt
opt-lines num_segments_due x y u = tt
opt-lines (num_zones_due o) x y u = tt
opt-lines (first_segment_due o z) x y u = (
  (λ v. oline program (first_segment_due o z) (x ∷ y ∷ []) format_version_of v x true (true ∷ y ∷ []) refl refl (true, y, false, refl)),
  (
    (λ v. oline program (first_segment_due o z) (x ∷ y ∷ []) creation_date_of v y true (x ∷ true ∷ []) refl (ontos-judge (x ∷ []) y true (true ∷ [])) (x, true, false, refl)),
    tt,
  ),
)
opt-lines (part_due m o z) x y u = tt
opt-lines (num_lanes_due m o z) x y u = tt
opt-lines (first_lane_due m o z l) x y u = (
  (λ v. oline program (first_lane_due m o z l) (x ∷ []) segment_name_of v x true (true ∷ []) refl refl (true, false, false, refl)),
  tt,
)
opt-lines (lane_due m o z n l) x y u = tt
opt-lines (num_waypoints_due m o z n l) x y u = tt
opt-lines (first_waypoint_due m o z n l w) x y u = (
  (λ v. oline program (first_waypoint_due m o z n l w) (x ∷ y ∷ u ∷ false ∷ false ∷ false ∷ []) lane_width_of v x (tested at_most v) (true ∷ y ∷ u ∷ false ∷ false ∷ false ∷ []) refl refl (true, y, u, refl)),
  (
    (λ v. oline program (first_waypoint_due m o z n l w) (x ∷ y ∷ u ∷ false ∷ false ∷ false ∷ []) left_boundary_of v y true (x ∷ true ∷ u ∷ false ∷ false ∷ false ∷ []) refl (ontos-judge (x ∷ []) y true (true ∷ u ∷ false ∷ false ∷ false ∷ [])) (x, true, u, refl)),
    (
      (λ v. oline program (first_waypoint_due m o z n l w) (x ∷ y ∷ u ∷ false ∷ false ∷ false ∷ []) right_boundary_of v u true (x ∷ y ∷ true ∷ false ∷ false ∷ false ∷ []) refl (ontos-judge (x ∷ y ∷ []) u true (true ∷ false ∷ false ∷ false ∷ [])) (x, y, true, refl)),
      (
        (λ v. oline program (first_waypoint_due m o z n l w) (x ∷ y ∷ u ∷ false ∷ false ∷ false ∷ []) checkpoint v false (tested (own_checkpoint_of m n 1 w) v) (x ∷ y ∷ u ∷ false ∷ false ∷ false ∷ []) refl (ontos-judge (x ∷ y ∷ u ∷ []) false (tested (own_checkpoint_of m n 1 w) v) (false ∷ false ∷ false ∷ [])) (x, y, u, refl)),
        (
          (λ v. oline program (first_waypoint_due m o z n l w) (x ∷ y ∷ u ∷ false ∷ false ∷ false ∷ []) stop v false (tested (own_stop_of m n w) v) (x ∷ y ∷ u ∷ false ∷ false ∷ false ∷ []) refl (ontos-judge (x ∷ y ∷ u ∷ false ∷ []) false (tested (own_stop_of m n w) v) (false ∷ false ∷ [])) (x, y, u, refl)),
          (
            (λ v. oline program (first_waypoint_due m o z n l w) (x ∷ y ∷ u ∷ false ∷ false ∷ false ∷ []) exit v false (tested (own_exit_of m n (GoodExit w) (exit? w)) v) (x ∷ y ∷ u ∷ false ∷ false ∷ false ∷ []) refl (ontos-judge (x ∷ y ∷ u ∷ false ∷ false ∷ []) false (tested (own_exit_of m n (GoodExit w) (exit? w)) v) (false ∷ [])) (x, y, u, refl)),
            tt,
          ),
        ),
      ),
    ),
  ),
)
opt-lines (waypoint_due m o z n l k w) x y u = tt
opt-lines (num_spots_due m z) x y u = tt
opt-lines (perimeter_due m z s) x y u = (
  (λ v. oline program (perimeter_due m z s) (x ∷ []) zone_name_of v x true (true ∷ []) refl refl (true, false, false, refl)),
  tt,
)
opt-lines (num_perimeterpoints_due m z s) x y u = tt
opt-lines (first_perimeterpoint_due m z s p) x y u = (
  (λ v. oline program (first_perimeterpoint_due m z s p) (false ∷ []) exit v false (tested (own_exit_of m 0 (GoodPerimeterExit p) (perimeter_exit? p)) v) (false ∷ []) refl refl (false, false, false, refl)),
  tt,
)
opt-lines (perimeterpoint_due m z s k p) x y u = tt
opt-lines (spot_due m z n s) x y u = tt
opt-lines (first_of_spot_due m z n s) x y u = (
  (λ v. oline program (first_of_spot_due m z n s) (x ∷ y ∷ []) spot_width_of v x (tested counted v) (true ∷ y ∷ []) refl refl (true, y, false, refl)),
  (
    (λ v. oline program (first_of_spot_due m z n s) (x ∷ y ∷ []) checkpoint v y (tested (own_checkpoint_of m n 2 2) v) (x ∷ true ∷ []) refl (ontos-judge (x ∷ []) y (tested (own_checkpoint_of m n 2 2) v) (true ∷ [])) (x, true, false, refl)),
    tt,
  ),
)
opt-lines (second_of_spot_due m z n s) x y u = tt
opt-lines (end_spot_due m z n s) x y u = tt

-- ## From the program's places to the machine's, and back
fit-abs : (p : Place) → Fit program (abs_of p)
unfolding abs_of
fit-abs p =
    fit-pick program (eqb p.row 0) _ _ (false, false, false, refl) (
    fit-pick program (eqb p.row 1) _ _ (false, false, false, refl) (
    fit-pick program (eqb p.row 2) _ _ (false, false, false, refl) (
    fit-pick program (eqb p.row 3) _ _ (p.given.first, p.given.second, false, refl) (
    fit-pick program (eqb p.row 4) _ _ (false, false, false, refl) (
    fit-pick program (eqb p.row 7) _ _ (false, false, false, refl) (
    fit-pick program (eqb p.row 8) _ _ (p.given.first, false, false, refl) (
    fit-pick program (eqb p.row 9) _ _ (false, false, false, refl) (
    fit-pick program (eqb p.row 11) _ _ (false, false, false, refl) (
    fit-pick program (eqb p.row 12) _ _ (p.given.first, p.given.second, p.given.third, refl) (
    fit-pick program (eqb p.row 13) _ _ (false, false, false, refl) (
    fit-pick program (eqb p.row 15) _ _ (false, false, false, refl) (
    fit-pick program (eqb p.row 16) _ _ (p.given.first, false, false, refl) (
    fit-pick program (eqb p.row 17) _ _ (false, false, false, refl) (
    fit-pick program (eqb p.row 18) _ _ (false, false, false, refl) (
    fit-pick program (eqb p.row 19) _ _ (false, false, false, refl) (
    fit-pick program (eqb p.row 21) _ _ (false, false, false, refl) (
    fit-pick program (eqb p.row 23) _ _ (p.given.first, p.given.second, false, refl) (
    fit-pick program (eqb p.row 24) _ _ (false, false, false, refl) (
    fit-pick program (eqb p.row 25) _ _ (false, false, false, refl) (
    tt))))))))))))))))))))

abs-inside : (b : Base) (x y u : Bool) → abs_of (place_of (inside b (flags b x y u))) ≡ inside b (flags b x y u)
unfolding abs_of
abs-inside name_due x y u = refl
abs-inside num_segments_due x y u = refl
abs-inside (num_zones_due o) x y u = refl
abs-inside (first_segment_due o z) x y u = refl
abs-inside (part_due m o z) x y u = refl
abs-inside (num_lanes_due m o z) x y u = refl
abs-inside (first_lane_due m o z l) x y u = refl
abs-inside (lane_due m o z n l) x y u = refl
abs-inside (num_waypoints_due m o z n l) x y u = refl
abs-inside (first_waypoint_due m o z n l w) x y u = refl
abs-inside (waypoint_due m o z n l k w) x y u = refl
abs-inside (num_spots_due m z) x y u = refl
abs-inside (perimeter_due m z s) x y u = refl
abs-inside (num_perimeterpoints_due m z s) x y u = refl
abs-inside (first_perimeterpoint_due m z s p) x y u = refl
abs-inside (perimeterpoint_due m z s k p) x y u = refl
abs-inside (spot_due m z n s) x y u = refl
abs-inside (first_of_spot_due m z n s) x y u = refl
abs-inside (second_of_spot_due m z n s) x y u = refl
abs-inside (end_spot_due m z n s) x y u = refl

abs-over : abs_of (place_of over) ≡ over
unfolding abs_of
abs-over = refl

over-here : (q : Stand Base) → over_of (place_of q) ≡ is_over (rndf Stretch) q
over-here over = refl
over-here (inside name_due g) = refl
over-here (inside num_segments_due g) = refl
over-here (inside (num_zones_due o) g) = refl
over-here (inside (first_segment_due o z) g) = refl
over-here (inside (part_due m o z) g) = refl
over-here (inside (num_lanes_due m o z) g) = refl
over-here (inside (first_lane_due m o z l) g) = refl
over-here (inside (lane_due m o z n l) g) = refl
over-here (inside (num_waypoints_due m o z n l) g) = refl
over-here (inside (first_waypoint_due m o z n l w) g) = refl
over-here (inside (waypoint_due m o z n l k w) g) = refl
over-here (inside (num_spots_due m z) g) = refl
over-here (inside (perimeter_due m z s) g) = refl
over-here (inside (num_perimeterpoints_due m z s) g) = refl
over-here (inside (first_perimeterpoint_due m z s p) g) = refl
over-here (inside (perimeterpoint_due m z s k p) g) = refl
over-here (inside (spot_due m z n s) g) = refl
over-here (inside (first_of_spot_due m z n s) g) = refl
over-here (inside (second_of_spot_due m z n s) g) = refl
over-here (inside (end_spot_due m z n s) g) = refl

-- ## By the kind alone
by_kind : (p : Place) (k : Kind) (v : Says Stretch k) → refuses_of p (kind_row k) ≡ early (seen (step_of p (of_kind k v)))
unfolding refuses_of refuses_by step_of by_cell due_of option_of
by_kind p k v =
    let s = of_kind k v in
    let c = cell rndf_table_of (index_of p) (kind_of s) in
    ap (λ (j : ℕ). refuses_of p j) (sym (kind-written k v)) ∙ by-cell program (ltb c 128) (ltb c 255) (has_of p.given (c - 128)) (permits_of p s) (ready_of p) (after_of p s c) (opted_of p (c - 128))

pub cells : Cells program
cells = record {
  cleared = cleared;
  due-line = due-line;
  opt-lines = opt-lines;
  none-line = none-line;
  over-line = over-line;
  fit-abs = fit-abs;
  abs-inside = abs-inside;
  abs-over = abs-over;
  by_kind = by_kind;
  over-here = over-here;
}
