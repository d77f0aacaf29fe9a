-- What the theorems ask of an RNDF: what is permitted stays so with low values behind. Assumes nothing.
use mathlib.Core.Path.{◌≡◌, refl, sym, ap, subst, ◌∙◌}
use mathlib.Core.List.{List, [], ◌∷◌, head-eq_of_cons-eq}
use mathlib.Core.Option.{Option, none}
use mathlib.Core.Bool.{true}
use Prim.Native.Nat.{ℕ, zero, suc}
use native.Mathlib.Omega.{arith}
use lib.Dec.{T}
use lib.IntN.{pos}
use Rattle.terms.specs.Words.{Each}
use Rattle.line.specs.Content.{Field}
use Rattle.number.proofs.House.{house-triple-one, house-triple-first}
use Rattle.word.specs.Number.{digit_first}
use Rattle.grammar.specs.Editions.{Edition, law_of}
use Rattle.grammar.specs.Statements.{Kind, PointId, CheckpointLine, ExitLine, PointLine, RNDF_name_of, num_segments, num_zones, format_version_of, creation_date_of, segment, num_lanes, segment_name_of, end_segment, lane, num_waypoints, lane_width_of, left_boundary_of, right_boundary_of, checkpoint, stop, exit, end_lane_of, zone, num_spots, zone_name_of, end_zone, perimeter, num_perimeterpoints, end_perimeter, spot, spot_width_of, end_spot, end_file_of, point, point_id}
use Rattle.grammar.specs.Network.{under, GoodExit, GoodPerimeterExit}
use Rattle.grammar.specs.Forms.{tested}
use Rattle.grammar.specs.Machine.{lenient}
use Rattle.grammar.specs.Permitted.{the_point_of, own_checkpoint_of, own_exit_of, exit?, perimeter_exit?}
use Rattle.grammar.specs.Places.{rndf_by, Base, opts, due_in, name_due, num_segments_due, num_zones_due, first_segment_due, part_due, num_lanes_due, first_lane_due, lane_due, num_waypoints_due, first_waypoint_due, waypoint_due, num_spots_due, perimeter_due, num_perimeterpoints_due, first_perimeterpoint_due, perimeterpoint_due, spot_due, first_of_spot_due, second_of_spot_due, end_spot_due}
use Rattle.grammar.specs.PlaceRows.{kind_row}
use Rattle.grammar.proofs.FormLaws as Form
use Rattle.text.specs.RndfWords.{word_at, rndf_sorts_in, rndf_make_in, rndf_lexis_in}
use Rattle.text.specs.Judge.{a_triple, an_integer, a_coordinate, Vals}
use Rattle.law.specs.Network.{Line, SpellsField}
use Rattle.law.specs.Network as Law
use Rattle.law_spelling.proofs.Fields.{field_back}
use Rattle.text.specs.Said as Texts
use Rattle.law_faults.proofs.Sorts.{law-said}
use Rattle.law_faults.proofs.Rndf.{only-point}
use Rattle.law_columns.specs.Files.{rndf_low, rndf_low_in}
use Rattle.law_columns.proofs.Wrong.{Completes}
use Rattle.law_columns.proofs.LineColumns.{Lows}
use Rattle.law_columns.proofs.Starting.{SortOf}

-- ## Kinds of two and three values
checkpoint-low : (m n a w : ℕ) → Completes (a_triple ∷ an_integer ∷ []) (λ u. tested (own_checkpoint_of m n a w) (record { waypoint = u.0; number = u.1.0 })) (rndf_low checkpoint)
checkpoint-low m n a w = (
  (λ u t.
      let F = own_checkpoint_of m n a w in
      let x = Form.pick F (record { waypoint = u.0; number = u.1.0 }) t in
      let e = ap (λ (l : CheckpointLine). l.waypoint) x.0 in
      Form.thus (F.fits (record { waypoint = u.0; number = 1 })) ((λ i. record { waypoint = e i; number = 1 }), record { waypoint = x.1.waypoint; number = record { low = omega arith; high = omega arith } })),
  λ v. ((λ u t. t), λ n. tt),
)

exit-low : (m n w : ℕ) → Completes (a_triple ∷ a_triple ∷ []) (λ u. tested (own_exit_of m n (GoodExit w) (exit? w)) (record { waypoint = u.0; entry = u.1.0 })) (rndf_low exit)
exit-low m n w = (
  (λ u t.
      let F = own_exit_of m n (GoodExit w) (exit? w) in
      let x = Form.pick F (record { waypoint = u.0; entry = u.1.0 }) t in
      let e = ap (λ (l : ExitLine). l.waypoint) x.0 in
      Form.thus (F.fits (record { waypoint = u.0; entry = point_id 1 1 1 })) ((λ i. record { waypoint = e i; entry = point_id 1 1 1 }), record { waypoint = x.1.waypoint; entry = record { x = record { low = omega arith; high = omega arith }; y = omega arith; z = record { low = omega arith; high = omega arith } } })),
  λ v. ((λ u t. t), λ n. tt),
)

perimeter-exit-low : (m w : ℕ) → Completes (a_triple ∷ a_triple ∷ []) (λ u. tested (own_exit_of m 0 (GoodPerimeterExit w) (perimeter_exit? w)) (record { waypoint = u.0; entry = u.1.0 })) (rndf_low exit)
perimeter-exit-low m w = (
  (λ u t.
      let F = own_exit_of m 0 (GoodPerimeterExit w) (perimeter_exit? w) in
      let x = Form.pick F (record { waypoint = u.0; entry = u.1.0 }) t in
      let e = ap (λ (l : ExitLine). l.waypoint) x.0 in
      Form.thus (F.fits (record { waypoint = u.0; entry = point_id 1 1 1 })) ((λ i. record { waypoint = e i; entry = point_id 1 1 1 }), record { waypoint = x.1.waypoint; x = record { low = omega arith; high = omega arith }; y = record { low = omega arith; high = omega arith }; z = record { low = omega arith; high = omega arith } })),
  λ v. ((λ u t. t), λ n. tt),
)

point-low : (m n i : ℕ) → Completes (a_triple ∷ a_coordinate ∷ a_coordinate ∷ []) (λ u. tested (the_point_of m n i) (record { id = u.0; position = record { latitude = u.1.0; longitude = u.1.1.0 } })) (rndf_low point)
point-low m n i = (
  (λ u t.
      let F = the_point_of m n i in
      let x = Form.pick F (record { id = u.0; position = record { latitude = u.1.0; longitude = u.1.1.0 } }) t in
      let e = ap (λ (l : PointLine). l.id) x.0 in
      Form.thus (F.fits (record { id = u.0; position = record { latitude = pos 0; longitude = pos 0 } })) ((λ i. record { id = e i; position = record { latitude = pos 0; longitude = pos 0 } }), record { latitude = omega arith; longitude = omega arith })),
  λ v. (
    (λ u t.
        let F = the_point_of m n i in
        let x = Form.pick F (record { id = v; position = record { latitude = u.0; longitude = u.1.0 } }) t in
        let e = ap (λ (l : PointLine). l.id) x.0 in
        Form.thus (F.fits (record { id = v; position = record { latitude = u.0; longitude = pos 0 } })) ((λ i. record { id = e i; position = record { latitude = u.0; longitude = pos 0 } }), record { latitude = x.1.latitude; longitude = omega arith })),
    λ a. ((λ u t. t), λ n. tt),
  ),
)

-- ## Every place
options-low : (d : Edition) (b : Base) → Each (λ o. Completes (rndf_sorts_in d o.on) (λ u. o.test (rndf_make_in d o.on u)) (rndf_low_in d o.on)) (opts Field b)
options-low d name_due = tt
options-low d num_segments_due = tt
options-low d (num_zones_due o) = tt
options-low d (first_segment_due o z) = (((λ u t. t), λ v. tt), (((λ u t. t), λ v. tt), tt))
options-low d (part_due m o z) = tt
options-low d (num_lanes_due m o z) = tt
options-low d (first_lane_due m o z l) = (((λ u t. t), λ v. tt), tt)
options-low d (lane_due m o z n l) = tt
options-low d (num_waypoints_due m o z n l) = tt
options-low d (first_waypoint_due m o z n l w) = (((λ u t. t), λ v. tt), (((λ u t. t), λ v. tt), (((λ u t. t), λ v. tt), (checkpoint-low m n 1 w, (((λ u t. t), λ v. tt), (exit-low m n w, tt))))))
options-low d (waypoint_due m o z n l k w) = tt
options-low d (num_spots_due m z) = tt
options-low d (perimeter_due m z s) = (((λ u t. t), λ v. tt), tt)
options-low d (num_perimeterpoints_due m z s) = tt
options-low d (first_perimeterpoint_due m z s p) = (perimeter-exit-low m p, tt)
options-low d (perimeterpoint_due m z s k p) = tt
options-low d (spot_due m z n s) = tt
options-low d (first_of_spot_due m z n s) = (((λ u t. t), λ v. tt), (checkpoint-low m n 2 2, tt))
options-low d (second_of_spot_due m z n s) = tt
options-low d (end_spot_due m z n s) = tt

due-low : (d : Edition) (b : Base) → Completes (rndf_sorts_in d (due_in Field d b).on) (λ u. (due_in Field d b).test (rndf_make_in d (due_in Field d b).on u)) (rndf_low_in d (due_in Field d b).on)
due-low d name_due = ((λ u t. t), λ v. tt)
due-low d num_segments_due = ((λ u t. t), λ v. tt)
due-low d (num_zones_due o) = ((λ u t. t), λ v. tt)
due-low d (first_segment_due o z) = ((λ u t. t), λ v. tt)
due-low d (part_due m (suc o) z) = ((λ u t. t), λ v. tt)
due-low d (part_due m zero (suc z)) = ((λ u t. t), λ v. tt)
due-low d (part_due m zero zero) = tt
due-low d (num_lanes_due m o z) = ((λ u t. t), λ v. tt)
due-low d (first_lane_due m o z l) = ((λ u t. t), λ v. tt)
due-low d (lane_due m o z n zero) = tt
due-low d (lane_due m o z n (suc l)) = ((λ u t. t), λ v. tt)
due-low d (num_waypoints_due m o z n l) = ((λ u t. t), λ v. tt)
due-low d (first_waypoint_due m o z n l w) = point-low m n 1
due-low d (waypoint_due m o z n l k zero) = tt
due-low d (waypoint_due m o z n l k (suc w)) = point-low m n k
due-low d (num_spots_due m z) = ((λ u t. t), λ v. tt)
due-low d (perimeter_due m z s) = ((λ u t. t), λ v. tt)
due-low d (num_perimeterpoints_due m z s) = ((λ u t. t), λ v. tt)
due-low d (first_perimeterpoint_due m z s p) = point-low m 0 1
due-low d (perimeterpoint_due m z s k zero) = tt
due-low d (perimeterpoint_due m z s k (suc p)) = point-low m 0 k
due-low d (spot_due m z n zero) = tt
due-low d (spot_due m z n (suc s)) = ((λ u t. t), λ v. tt)
due-low d (first_of_spot_due m z n s) = point-low m n 1
due-low d (second_of_spot_due m z n s) = point-low m n 2
due-low d (end_spot_due m z n s) = tt

-- ## A point's line begins with a digit
triple-digit : (f : Field) (i : PointId) → Texts.SpellsField f (Texts.triple i) → digit_first f.bytes ≡ true
triple-digit f i h = rw (house-triple-one i.x i.y i.z f.bytes h) (house-triple-first i.x i.y i.z)

digits : (d : Edition) (k : Kind) → word_at (kind_row k) ≡ none → (u : Vals (rndf_sorts_in d k)) (x : Law.Said) (l : Line) → law-said (rndf_sorts_in d k) u ≡ x ∷ l → (f : Field) → SpellsField (law_of d) f x → digit_first f.bytes ≡ true
digits d k e = subst (λ (k : Kind). (u : Vals (rndf_sorts_in d k)) (x : Law.Said) (l : Line) → law-said (rndf_sorts_in d k) u ≡ x ∷ l → (f : Field) → SpellsField (law_of d) f x → digit_first f.bytes ≡ true) (only-point k e) λ u x l q f h. triple-digit f u.0 (field_back d f (Texts.triple u.0) tt (subst (SpellsField (law_of d) f) (sym (head-eq_of_cons-eq q)) h))

-- boundaries are of the edition
sorts-of : (d : Edition) (k : Kind) → Each (SortOf d) (rndf_sorts_in d k)
sorts-of d RNDF_name_of = (tt, tt)
sorts-of d num_segments = (tt, tt)
sorts-of d num_zones = (tt, tt)
sorts-of d format_version_of = (tt, tt)
sorts-of d creation_date_of = (tt, tt)
sorts-of d segment = (tt, tt)
sorts-of d num_lanes = (tt, tt)
sorts-of d segment_name_of = (tt, tt)
sorts-of d end_segment = tt
sorts-of d lane = (tt, tt)
sorts-of d num_waypoints = (tt, tt)
sorts-of d lane_width_of = (tt, tt)
sorts-of d left_boundary_of = (refl, tt)
sorts-of d right_boundary_of = (refl, tt)
sorts-of d checkpoint = (tt, (tt, tt))
sorts-of d stop = (tt, tt)
sorts-of d exit = (tt, (tt, tt))
sorts-of d end_lane_of = tt
sorts-of d zone = (tt, tt)
sorts-of d num_spots = (tt, tt)
sorts-of d zone_name_of = (tt, tt)
sorts-of d end_zone = tt
sorts-of d perimeter = (tt, tt)
sorts-of d num_perimeterpoints = (tt, tt)
sorts-of d end_perimeter = tt
sorts-of d spot = (tt, tt)
sorts-of d spot_width_of = (tt, tt)
sorts-of d end_spot = tt
sorts-of d end_file_of = tt
sorts-of d point = (tt, (tt, (tt, tt)))

pub rndf-lows : (d : Edition) → Lows d (lenient (rndf_by Field (under d true))) (rndf_lexis_in d) (rndf_low_in d)
rndf-lows d = record { options = options-low d; owed = due-low d; sorts = sorts-of d; digits = digits d }
