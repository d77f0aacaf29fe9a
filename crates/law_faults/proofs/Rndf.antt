-- What the theorems ask of an RNDF. Assumes nothing.
use mathlib.Core.Path.{◌≡◌, refl, sym, ap, subst, ◌∙◌}
use mathlib.Core.List.{List, [], ◌∷◌}
use mathlib.Core.Option.{Option, none}
use mathlib.Core.Bool.{Bool, true, false, not}
use Prim.Native.Nat.{ℕ, zero, suc, ◌≤◌}
use native.Mathlib.Omega.{arith}
use lib.ListN.{get_or}
use lib.Dec.{T, ltb→lt}
use Rattle.terms.specs.Ascii.{Bytes, ascii}
use Rattle.line.specs.Content.{Field, at}
use Rattle.scan.specs.Reach.{same_bytes_of}
use Rattle.word.specs.Keywords.{rndf_keywords}
use Rattle.word.specs.Number.{index_of}
use Rattle.law.specs.Network.{double_yellow_of, Line, numbers, reading, present, lenient}
use Rattle.grammar.specs.Network.{GoodExit, GoodPerimeterExit}
use Rattle.law.specs.Network as Law
use Rattle.grammar.specs.Editions.{Edition, march, law_of}
use Rattle.grammar.specs.Language.{say}
use Rattle.grammar.specs.Network.{under, SpellsNetworkBy, SpellsNetwork}
use Rattle.grammar.specs.Statements.{Kind, Says, lines, RNDF_name_of, num_segments, num_zones, format_version_of, creation_date_of, segment, num_lanes, segment_name_of, end_segment, lane, num_waypoints, lane_width_of, left_boundary_of, right_boundary_of, checkpoint, stop, exit, end_lane_of, zone, num_spots, zone_name_of, end_zone, perimeter, num_perimeterpoints, end_perimeter, spot, spot_width_of, end_spot, end_file_of, point, point_id}
use Rattle.grammar.specs.Machine.{Place, step}
use Rattle.grammar.specs.Machine as Machine
use Rattle.grammar.specs.Forms.{tested}
use Rattle.grammar.specs.Permitted.{counted, at_most, own_stop_of, own_checkpoint_of, own_exit_of, exit?, perimeter_exit?}
use Rattle.grammar.specs.Places.{rndf_by, rndf, Base, opts, due_in, name_due, num_segments_due, num_zones_due, first_segment_due, part_due, num_lanes_due, first_lane_due, lane_due, num_waypoints_due, first_waypoint_due, waypoint_due, num_spots_due, perimeter_due, num_perimeterpoints_due, first_perimeterpoint_due, perimeterpoint_due, spot_due, first_of_spot_due, second_of_spot_due, end_spot_due}
use Rattle.grammar.specs.PlaceRows.{kinds, kind_row}
use Rattle.grammar.specs.Renamed.{says_named}
use Rattle.grammar.proofs.FormLaws as Form
use Rattle.grammar.proofs.Keeping.{GoodNext}
use Rattle.grammar.proofs.Renaming.{rndf-renamed-by}
use Rattle.grammar.proofs.RndfTable.{coded, short}
use Rattle.text.specs.RndfLines.{rndf_line_in_of, the_rndf_line_of}
use Rattle.text.specs.RndfWords.{word_at, rndf_sorts_in, rndf_make_in, rndf_lexis_in, rndf_lexis}
use Rattle.text.specs.Judge.{Vals}
use Rattle.text.specs.Spelling.{Name, bytes, bytes_of}
use Rattle.text.proofs.KeywordRows.{no_row}
use Rattle.text.proofs.Theorems.{rndf-file_in, rndf-lenient-file_in}
use Rattle.law_spelling.proofs.RndfParts.{network-to-by, network-back-by, network-to_in, network-back_in}
use Rattle.law_spelling.proofs.OneLine.{rndf-line-one_in, rndf-begins_in, rndf-all}
use Rattle.law_faults.proofs.Sorts.{law-said}
use Rattle.law_faults.proofs.Moved.{Alike}
use Rattle.law_faults.proofs.Needs.{Values, Needs}
use Rattle.law_faults.proofs.Listed.{listed?, unlisted-so, all-listed?, all-listed-so}

abbrev keyword : Kind → Option Bytes
keyword k = word_at (kind_row k)

-- ## The options are the law's, and no due statement is one
options-listed : (b : Base) → T (all-listed? (lines Field) keyword (opts Field b))
unfolding rndf_keywords ascii index_of same_bytes_of
options-listed name_due = tt
options-listed num_segments_due = tt
options-listed (num_zones_due o) = tt
options-listed (first_segment_due o z) = tt
options-listed (part_due m o z) = tt
options-listed (num_lanes_due m o z) = tt
options-listed (first_lane_due m o z l) = tt
options-listed (lane_due m o z n l) = tt
options-listed (num_waypoints_due m o z n l) = tt
options-listed (first_waypoint_due m o z n l w) = tt
options-listed (waypoint_due m o z n l k w) = tt
options-listed (num_spots_due m z) = tt
options-listed (perimeter_due m z s) = tt
options-listed (num_perimeterpoints_due m z s) = tt
options-listed (first_perimeterpoint_due m z s p) = tt
options-listed (perimeterpoint_due m z s k p) = tt
options-listed (spot_due m z n s) = tt
options-listed (first_of_spot_due m z n s) = tt
options-listed (second_of_spot_due m z n s) = tt
options-listed (end_spot_due m z n s) = tt

due-unlisted : (d : Edition) (b : Base) → T (not (listed? (keyword (due_in Field d b).on)))
unfolding rndf_keywords ascii index_of same_bytes_of
due-unlisted d name_due = tt
due-unlisted d num_segments_due = tt
due-unlisted d (num_zones_due o) = tt
due-unlisted d (first_segment_due o z) = tt
due-unlisted d (part_due m (suc o) z) = tt
due-unlisted d (part_due m zero (suc z)) = tt
due-unlisted d (part_due m zero zero) = tt
due-unlisted d (num_lanes_due m o z) = tt
due-unlisted d (first_lane_due m o z l) = tt
due-unlisted d (lane_due m o z n zero) = tt
due-unlisted d (lane_due m o z n (suc l)) = tt
due-unlisted d (num_waypoints_due m o z n l) = tt
due-unlisted d (first_waypoint_due m o z n l w) = tt
due-unlisted d (waypoint_due m o z n l k zero) = tt
due-unlisted d (waypoint_due m o z n l k (suc w)) = tt
due-unlisted d (num_spots_due m z) = tt
due-unlisted d (perimeter_due m z s) = tt
due-unlisted d (num_perimeterpoints_due m z s) = tt
due-unlisted d (first_perimeterpoint_due m z s p) = tt
due-unlisted d (perimeterpoint_due m z s k zero) = tt
due-unlisted d (perimeterpoint_due m z s k (suc p)) = tt
due-unlisted d (spot_due m z n zero) = tt
due-unlisted d (spot_due m z n (suc s)) = tt
due-unlisted d (first_of_spot_due m z n s) = tt
due-unlisted d (second_of_spot_due m z n s) = tt
due-unlisted d (end_spot_due m z n s) = tt

-- ## A permitted value of each option: a lane or perimeter has a first point
a_name : Field
a_name = at 0 []

checkpoint-value : (m n low w : ℕ) → low ≤ w → (v : Says Field checkpoint) × T (tested (own_checkpoint_of m n low w) v)
checkpoint-value m n low w h =
    let c : Law.Checkpoint = record { waypoint = low; number = 1 } in
    ((own_checkpoint_of m n low w).line c, Form.pass (own_checkpoint_of m n low w) c (record { waypoint = record { low = omega arith; high = h }; number = record { low = omega arith; high = omega arith } }))

stop-value : (m n w : ℕ) → 1 ≤ w → (v : Says Field stop) × T (tested (own_stop_of m n w) v)
stop-value m n w h = (point_id m n 1, Form.pass (own_stop_of m n w) 1 (record { low = omega arith; high = h }))

-- to the first point of the first lane
an_exit : Law.Exit
an_exit = record { waypoint = 1; entry = point_id 1 1 1 }

exit-value : (m n w : ℕ) → 1 ≤ w → (v : Says Field exit) × T (tested (own_exit_of m n (GoodExit w) (exit? w)) v)
unfolding an_exit
exit-value m n w h =
    let F = own_exit_of m n (GoodExit w) (exit? w) in
    (F.line an_exit, Form.pass F an_exit (record { waypoint = record { low = omega arith; high = h }; entry = record { x = record { low = omega arith; high = omega arith }; y = omega arith; z = record { low = omega arith; high = omega arith } } }))

perimeter-exit-value : (m w : ℕ) → 1 ≤ w → (v : Says Field exit) × T (tested (own_exit_of m 0 (GoodPerimeterExit w) (perimeter_exit? w)) v)
unfolding an_exit
perimeter-exit-value m w h =
    let F = own_exit_of m 0 (GoodPerimeterExit w) (perimeter_exit? w) in
    (F.line an_exit, Form.pass F an_exit (record { waypoint = record { low = omega arith; high = h }; x = record { low = omega arith; high = omega arith }; y = record { low = omega arith; high = omega arith }; z = record { low = omega arith; high = omega arith } }))

at-most-value : (v : Says Field lane_width_of) × T (tested at_most v)
at-most-value = (0, Form.pass at_most 0 (omega arith))

counted-value : (v : ℕ) × T (tested counted v)
counted-value = (1, Form.pass counted 1 (record { low = omega arith; high = omega arith }))

some-counted : (v : ℕ) → T (tested counted v) → 1 ≤ v
some-counted v t = (Form.pick counted v t).1.low

values_after : (d : Edition) (b : Base) (v : Says Field (due_in Field d b).on) → T ((due_in Field d b).test v) → GoodNext (rndf_by Field (under d true)) (Values (rndf_by Field (under d true))) ((due_in Field d b).then v)
values_after d name_due v t = tt
values_after d num_segments_due v t = tt
values_after d (num_zones_due o) v t = ((a_name, tt), ((a_name, tt), tt))
values_after d (first_segment_due o z) v t = tt
values_after d (part_due m (suc o) z) v t = tt
values_after d (part_due m zero (suc z)) v t = tt
values_after d (part_due m zero zero) v t = tt
values_after d (num_lanes_due m o z) v t = ((a_name, tt), tt)
values_after d (first_lane_due m o z l) v t = tt
values_after d (lane_due m o z n zero) v t = tt
values_after d (lane_due m o z n (suc l)) v t = tt
values_after d (num_waypoints_due m o z n l) v t = (at-most-value, ((double_yellow_of, tt), ((double_yellow_of, tt), (checkpoint-value m n 1 v (some-counted v t), (stop-value m n v (some-counted v t), (exit-value m n v (some-counted v t), tt))))))
values_after d (first_waypoint_due m o z n l w) v t = tt
values_after d (waypoint_due m o z n l k zero) v t = tt
values_after d (waypoint_due m o z n l k (suc w)) v t = tt
values_after d (num_spots_due m z) v t = ((a_name, tt), tt)
values_after d (perimeter_due m z s) v t = tt
values_after d (num_perimeterpoints_due m z s) v t = (perimeter-exit-value m v (some-counted v t), tt)
values_after d (first_perimeterpoint_due m z s p) v t = tt
values_after d (perimeterpoint_due m z s k zero) v t = tt
values_after d (perimeterpoint_due m z s k (suc p)) v t = tt
values_after d (spot_due m z n zero) v t = tt
values_after d (spot_due m z n (suc s)) v t = (counted-value, (checkpoint-value m n 2 2 (omega arith), tt))
values_after d (first_of_spot_due m z n s) v t = tt
values_after d (second_of_spot_due m z n s) v t = tt
values_after d (end_spot_due m z n s) v t = tt

-- ## The one kind without a keyword is a point's
pub only-point : (k : Kind) → keyword k ≡ none → point ≡ k
only-point k e =
    let h = no_row 29 rndf_keywords [] (kind_row k) e in
    let l = ltb→lt (kind_row k) 30 (short k) in
    let i : kind_row k ≡ 29 = omega arith in
    sym (ap (λ (j : ℕ). get_or kinds j RNDF_name_of) i) ∙ coded k

numeric : (d : Edition) (k : Kind) → keyword k ≡ none → (w : Vals (rndf_sorts_in d k)) → (i : List ℕ) × (l : Line) × (law-said (rndf_sorts_in d k) w ≡ numbers i ∷ l)
numeric d k e = subst (λ (k : Kind). (w : Vals (rndf_sorts_in d k)) → (i : List ℕ) × (l : Line) × (law-said (rndf_sorts_in d k) w ≡ numbers i ∷ l)) (only-point k e) (λ w. (_, _, refl))

-- ## Names' places do not matter
alike : (d : Edition) (k : Kind) (u w : Vals (rndf_sorts_in d k)) → Alike (rndf_sorts_in d k) u w → says_named bytes_of k (rndf_make_in d k u) ≡ says_named bytes_of k (rndf_make_in d k w)
alike d RNDF_name_of u w h = ap bytes h.0
alike d num_segments u w h = h.0
alike d num_zones u w h = h.0
alike d format_version_of u w h = ap bytes h.0
alike d creation_date_of u w h = ap bytes h.0
alike d segment u w h = h.0
alike d num_lanes u w h = h.0
alike d segment_name_of u w h = ap bytes h.0
alike d end_segment u w h = refl
alike d lane u w h = h.0
alike d num_waypoints u w h = h.0
alike d lane_width_of u w h = h.0
alike d left_boundary_of u w h = h.0
alike d right_boundary_of u w h = h.0
alike d checkpoint u w h = λ i. record { waypoint = h.0 i; number = h.1.0 i }
alike d stop u w h = h.0
alike d exit u w h = λ i. record { waypoint = h.0 i; entry = h.1.0 i }
alike d end_lane_of u w h = refl
alike d zone u w h = h.0
alike d num_spots u w h = h.0
alike d zone_name_of u w h = ap bytes h.0
alike d end_zone u w h = refl
alike d perimeter u w h = h.0
alike d num_perimeterpoints u w h = h.0
alike d end_perimeter u w h = refl
alike d spot u w h = h.0
alike d spot_width_of u w h = h.0
alike d end_spot u w h = refl
alike d end_file_of u w h = refl
alike d point u w h = λ i. record { id = h.0 i; position = record { latitude = h.1.0 i; longitude = h.1.1.0 i } }

steady : (d : Edition) (strict : Bool) (p : Place (rndf Field)) (k : Kind) (u w : Vals (rndf_sorts_in d k)) → Alike (rndf_sorts_in d k) u w → step (rndf_by Field (under d strict)) p (say (lines Field) k (rndf_make_in d k u)) ≡ step (rndf_by Field (under d strict)) p (say (lines Field) k (rndf_make_in d k w))
steady d strict p k u w h =
    let by = under d strict in
    sym (rndf-renamed-by bytes_of by p (say (lines Field) k (rndf_make_in d k u))) ∙ ap (λ (v : Says Name k). step (rndf_by Name by) p (say (lines Name) k v)) (alike d k u w h) ∙ rndf-renamed-by bytes_of by p (say (lines Field) k (rndf_make_in d k w))

module _ (d : Edition) where
  pub rndf-needs_in : Needs d (reading (law_of d)) (rndf_by Field (under d true)) (rndf_lexis_in d) (rndf_line_in_of d) (SpellsNetworkBy (under d true)) Law.SpellsNetwork name_due
  rndf-needs_in = record {
    file = rndf-file_in d;
    to = network-to_in d;
    back = network-back_in d;
    one = rndf-line-one_in d;
    all = rndf-all d;
    begins = rndf-begins_in d;
    values_first = tt;
    values_after = values_after d;
    listed = λ b. all-listed-so (lines Field) keyword (opts Field b) (options-listed b);
    unlisted = λ b. unlisted-so (keyword (due_in Field d b).on) (due-unlisted d b);
    numeric = numeric d;
    steady = steady d true;
  }

  -- without L8's rule
  pub rndf-lenient-needs_in : Needs d (lenient (reading (law_of d))) (Machine.lenient (rndf_by Field (under d true))) (rndf_lexis_in d) (rndf_line_in_of d) (SpellsNetworkBy (under d false)) Law.SpellsNetwork name_due
  rndf-lenient-needs_in = record {
    file = rndf-lenient-file_in d;
    to = network-to-by d false;
    back = network-back-by d false;
    one = rndf-line-one_in d;
    all = rndf-all d;
    begins = rndf-begins_in d;
    values_first = tt;
    values_after = values_after d;
    listed = rndf-needs_in.listed;
    unlisted = rndf-needs_in.unlisted;
    numeric = numeric d;
    steady = steady d false;
  }

-- in the present edition
pub rndf-needs : Needs march present (rndf Field) rndf_lexis the_rndf_line_of SpellsNetwork Law.SpellsNetwork name_due
rndf-needs = rndf-needs_in march

pub rndf-lenient-needs : Needs march (lenient present) (Machine.lenient (rndf Field)) rndf_lexis the_rndf_line_of (SpellsNetworkBy (under march false)) Law.SpellsNetwork name_due
rndf-lenient-needs = rndf-lenient-needs_in march
