-- EXACTLY WHAT MAY STAND: at every place that lines lead to, in each edition, with L8 and without; of an RNDF and of an MDF. Assumes nothing.
use mathlib.Core.Path.{refl, subst}
use mathlib.Core.List.{List, [], ◌∷◌, ◌++◌}
use mathlib.Core.Bool.{true, false}
use Prim.Native.Nat.{zero, suc, ◌≤◌}
use native.Mathlib.Omega.{arith}
use Rattle.terms.specs.Ascii.{ascii}
use Rattle.terms.specs.Words.{Among}
use Rattle.line.specs.Content.{Field}
use Rattle.grammar.specs.Editions.{Edition, law_of}
use Rattle.grammar.specs.Language.{S}
use Rattle.grammar.specs.Statements as Rndf
use Rattle.grammar.specs.MissionStatements as Mdf
use Rattle.grammar.specs.Network.{under, SpellsNetworkBy}
use Rattle.grammar.specs.Mission.{SpellsMission}
use Rattle.grammar.specs.Machine.{over, inside, Place, at}
use Rattle.grammar.specs.Machine as Machine
use Rattle.grammar.specs.Places.{rndf_by, Base, opts, due_in, name_due, num_segments_due, num_zones_due, first_segment_due, part_due, num_lanes_due, first_lane_due, lane_due, num_waypoints_due, first_waypoint_due, waypoint_due, num_spots_due, perimeter_due, num_perimeterpoints_due, first_perimeterpoint_due, perimeterpoint_due, spot_due, first_of_spot_due, second_of_spot_due, end_spot_due}
use Rattle.grammar.specs.MissionPlaces.{mdf}
use Rattle.grammar.specs.MissionPlaces as M-at
use Rattle.grammar.proofs.Keeping.{GoodPlace, GoodOut, run-good}
use Rattle.text.specs.RndfLines.{rndf_line_in_of}
use Rattle.text.specs.MdfLines.{the_mdf_line_of}
use Rattle.text.specs.RndfWords.{rndf_lexis_in}
use Rattle.text.specs.MdfWords.{mdf_lexis}
use Rattle.text.proofs.RndfText.{Bounded, keeps}
use Rattle.law.specs.Network.{Line, reading, lenient}
use Rattle.law.specs.Faults.{Begins, Opens}
use Rattle.law.specs.Network as Law
use Rattle.law_faults.proofs.Reached.{laws, Came}
use Rattle.law_faults.proofs.Rndf.{rndf-needs_in, rndf-lenient-needs_in}
use Rattle.law_faults.proofs.Mdf.{mdf-needs_in, mdf-lenient-needs_in}
use Rattle.expected_law.specs.Expected.{Form, OpensForm}
use Rattle.expected_exact.specs.Listed.{listed, rndf_options, rndf_due, mdf_options, mdf_due}
use Rattle.expected_exact.proofs.Shapes.{Heads, OnLine, Fits, word_fits, name-fits, boundary-fits, goal-fits, counted-fits, at-most-fits, up_to_fits, the-number-fits, spots-fits, part-fits, stop-fits, checkpoint-fits, lane-exit-fits, border-exit-fits, point-fits, limit-fits}
use Rattle.expected_exact.proofs.Exact.{law-of-kind, FitRow, FitPlace, Exact, listed_exact, listed-opened, listed-says}

-- ## RNDF
module _ (e : Edition) where
  rndf-row-fits : (b : Base) → Bounded b → FitRow e (Rndf.lines Field) (rndf_line_in_of e) (opts Field b) (rndf_options e b)
  unfolding rndf_line_in_of
  rndf-row-fits name_due y = tt
  rndf-row-fits num_segments_due y = tt
  rndf-row-fits (num_zones_due o) y = tt
  rndf-row-fits (first_segment_due o z) y = (name-fits e (ascii "format_version"), (name-fits e (ascii "creation_date"), tt))
  rndf-row-fits (part_due m o z) y = tt
  rndf-row-fits (num_lanes_due m o z) y = tt
  rndf-row-fits (first_lane_due m o z l) y = (name-fits e (ascii "segment_name"), tt)
  rndf-row-fits (lane_due m o z n l) y = tt
  rndf-row-fits (num_waypoints_due m o z n l) y = tt
  rndf-row-fits (first_waypoint_due m o z n l w) y =
      let hm : m ≤ 99999 = omega arith in
      let hn : n ≤ 99999 = omega arith in
      let hw : w ≤ 99999 = omega arith in
      (at-most-fits e (ascii "lane_width"), (boundary-fits e (ascii "left_boundary"), (boundary-fits e (ascii "right_boundary"), (checkpoint-fits e (ascii "checkpoint") m n 1 w hm hn hw, (stop-fits e (ascii "stop") m n w hm hn hw, (lane-exit-fits e (ascii "exit") m n w hm hn hw, tt))))))
  rndf-row-fits (waypoint_due m o z n l k w) y = tt
  rndf-row-fits (num_spots_due m z) y = tt
  rndf-row-fits (perimeter_due m z s) y = (name-fits e (ascii "zone_name"), tt)
  rndf-row-fits (num_perimeterpoints_due m z s) y = tt
  rndf-row-fits (first_perimeterpoint_due m z s p) y = (border-exit-fits e (ascii "exit") m p (omega arith) (omega arith), tt)
  rndf-row-fits (perimeterpoint_due m z s k p) y = tt
  rndf-row-fits (spot_due m z n s) y = tt
  rndf-row-fits (first_of_spot_due m z n s) y = (counted-fits e (ascii "spot_width"), (checkpoint-fits e (ascii "checkpoint") m n 2 2 (omega arith) (omega arith) (omega arith), tt))
  rndf-row-fits (second_of_spot_due m z n s) y = tt
  rndf-row-fits (end_spot_due m z n s) y = tt

  abbrev RndfDue : Base → Type 0
  RndfDue b = Fits e (law-of-kind e (Rndf.lines Field) (rndf_line_in_of e) (due_in Field e b).on) (due_in Field e b).test (rndf_due e b)

  rndf-due-fits : (b : Base) → Bounded b → RndfDue b
  unfolding rndf_line_in_of
  rndf-due-fits name_due y = name-fits e (ascii "RNDF_name")
  rndf-due-fits num_segments_due y = counted-fits e (ascii "num_segments")
  rndf-due-fits (num_zones_due o) y = up_to_fits e (ascii "num_zones") o y.1
  rndf-due-fits (first_segment_due o z) y = the-number-fits e (ascii "segment") 1 (omega arith)
  rndf-due-fits (part_due m (suc o) z) y = the-number-fits e (ascii "segment") m (omega arith)
  rndf-due-fits (part_due m zero (suc z)) y = the-number-fits e (ascii "zone") m (omega arith)
  rndf-due-fits (part_due m zero zero) y = word_fits e (ascii "end_file")
  rndf-due-fits (num_lanes_due m o z) y = counted-fits e (ascii "num_lanes")
  rndf-due-fits (first_lane_due m o z l) y = part-fits e (ascii "lane") m 1 (omega arith) (omega arith)
  rndf-due-fits (lane_due m o z n zero) y = word_fits e (ascii "end_segment")
  rndf-due-fits (lane_due m o z n (suc l)) y = part-fits e (ascii "lane") m n (omega arith) (omega arith)
  rndf-due-fits (num_waypoints_due m o z n l) y = counted-fits e (ascii "num_waypoints")
  rndf-due-fits (first_waypoint_due m o z n l w) y = point-fits e m n 1 (omega arith) (omega arith) (omega arith)
  rndf-due-fits (waypoint_due m o z n l k zero) y = word_fits e (ascii "end_lane")
  rndf-due-fits (waypoint_due m o z n l k (suc w)) y = point-fits e m n k (omega arith) (omega arith) (omega arith)
  rndf-due-fits (num_spots_due m z) y = spots-fits e (ascii "num_spots")
  rndf-due-fits (perimeter_due m z s) y = part-fits e (ascii "perimeter") m 0 (omega arith) (omega arith)
  rndf-due-fits (num_perimeterpoints_due m z s) y = counted-fits e (ascii "num_perimeterpoints")
  rndf-due-fits (first_perimeterpoint_due m z s p) y = point-fits e m 0 1 (omega arith) (omega arith) (omega arith)
  rndf-due-fits (perimeterpoint_due m z s k zero) y = word_fits e (ascii "end_perimeter")
  rndf-due-fits (perimeterpoint_due m z s k (suc p)) y = point-fits e m 0 k (omega arith) (omega arith) (omega arith)
  rndf-due-fits (spot_due m z n zero) y = word_fits e (ascii "end_zone")
  rndf-due-fits (spot_due m z n (suc s)) y = part-fits e (ascii "spot") m n (omega arith) (omega arith)
  rndf-due-fits (first_of_spot_due m z n s) y = point-fits e m n 1 (omega arith) (omega arith) (omega arith)
  rndf-due-fits (second_of_spot_due m z n s) y = point-fits e m n 2 (omega arith) (omega arith) (omega arith)
  rndf-due-fits (end_spot_due m z n s) y = word_fits e (ascii "end_spot")

  abbrev rndf-places : Machine.Machine (Rndf.lines Field)
  rndf-places = rndf_by Field (under e true)

  rndf-place-fits : (p : Place rndf-places) → GoodPlace rndf-places Bounded p → FitPlace e (Rndf.lines Field) (rndf_line_in_of e) rndf-places (rndf_options e) (rndf_due e) p
  rndf-place-fits over y = tt
  rndf-place-fits (inside b g) y = record { row = rndf-row-fits b y; owed = rndf-due-fits b y }

  pub rndf-lenient-fits : (p : Place (Machine.lenient rndf-places)) → GoodPlace (Machine.lenient rndf-places) Bounded p → FitPlace e (Rndf.lines Field) (rndf_line_in_of e) (Machine.lenient rndf-places) (rndf_options e) (rndf_due e) p
  rndf-lenient-fits over y = tt
  rndf-lenient-fits (inside b g) y = record { row = rndf-row-fits b y; owed = rndf-due-fits b y }

  -- what is listed at the place behind lines is exactly what is taken there: of 5, 6, 10 and 25
  pub rndf_exact : (said : List (S (Rndf.lines Field))) (p : Place rndf-places) → Came rndf-places (rndf_lexis_in e) (rndf_line_in_of e) (SpellsNetworkBy (under e true)) Law.SpellsNetwork name_due (rndf-needs_in e) said p
      → Exact e (Rndf.lines Field) (rndf_line_in_of e) rndf-places (rndf_options e) (rndf_due e) (rndf_lexis_in e) (SpellsNetworkBy (under e true)) Law.SpellsNetwork name_due (rndf-needs_in e) refl said p
  rndf_exact said p came =
      let y = subst (GoodOut rndf-places Bounded) came (run-good rndf-places Bounded (keeps e) (at rndf-places name_due) said tt) in
      listed_exact e (Rndf.lines Field) (rndf_line_in_of e) rndf-places (rndf_options e) (rndf_due e) (rndf_lexis_in e) (SpellsNetworkBy (under e true)) Law.SpellsNetwork name_due (rndf-needs_in e) refl said p came (rndf-place-fits p y)

  -- the same, L8 aside: of 7, 8 and 9
  pub rndf-lenient_exact : (said : List (S (Rndf.lines Field))) (p : Place rndf-places) → Came (Machine.lenient rndf-places) (rndf_lexis_in e) (rndf_line_in_of e) (SpellsNetworkBy (under e false)) Law.SpellsNetwork name_due (rndf-lenient-needs_in e) said p
      → Exact e (Rndf.lines Field) (rndf_line_in_of e) (Machine.lenient rndf-places) (rndf_options e) (rndf_due e) (rndf_lexis_in e) (SpellsNetworkBy (under e false)) Law.SpellsNetwork name_due (rndf-lenient-needs_in e) refl said p
  rndf-lenient_exact said p came =
      let y = subst (GoodOut (Machine.lenient rndf-places) Bounded) came (run-good (Machine.lenient rndf-places) Bounded (keeps e) (at rndf-places name_due) said tt) in
      listed_exact e (Rndf.lines Field) (rndf_line_in_of e) (Machine.lenient rndf-places) (rndf_options e) (rndf_due e) (rndf_lexis_in e) (SpellsNetworkBy (under e false)) Law.SpellsNetwork name_due (rndf-lenient-needs_in e) refl said p came (rndf-lenient-fits p y)

  -- ## MDF
  mdf-row-fits : (b : M-at.Base) → FitRow e (Mdf.orders Field) the_mdf_line_of (M-at.opts Field b) (mdf_options b)
  unfolding the_mdf_line_of
  mdf-row-fits M-at.name_due = tt
  mdf-row-fits M-at.RNDF_due = tt
  mdf-row-fits M-at.checkpoints_due = (name-fits e (ascii "format_version"), (name-fits e (ascii "creation_date"), tt))
  mdf-row-fits M-at.num_checkpoints_due = tt
  mdf-row-fits M-at.speed_limits_due = tt
  mdf-row-fits M-at.num_speed_limits_due = tt
  mdf-row-fits M-at.end_file_due = tt
  mdf-row-fits (M-at.goal_due g) = tt
  mdf-row-fits (M-at.limit_due l) = tt

  abbrev MdfDue : M-at.Base → Type 0
  MdfDue b = Fits e (law-of-kind e (Mdf.orders Field) the_mdf_line_of (M-at.due Field b).on) (M-at.due Field b).test (mdf_due b)

  mdf-due-fits : (b : M-at.Base) → MdfDue b
  unfolding the_mdf_line_of
  mdf-due-fits M-at.name_due = name-fits e (ascii "MDF_name")
  mdf-due-fits M-at.RNDF_due = name-fits e (ascii "RNDF")
  mdf-due-fits M-at.checkpoints_due = word_fits e (ascii "checkpoints")
  mdf-due-fits M-at.num_checkpoints_due = counted-fits e (ascii "num_checkpoints")
  mdf-due-fits M-at.speed_limits_due = word_fits e (ascii "speed_limits")
  mdf-due-fits M-at.num_speed_limits_due = counted-fits e (ascii "num_speed_limits")
  mdf-due-fits M-at.end_file_due = word_fits e (ascii "end_file")
  mdf-due-fits (M-at.goal_due zero) = word_fits e (ascii "end_checkpoints")
  mdf-due-fits (M-at.goal_due (suc g)) = goal-fits e
  mdf-due-fits (M-at.limit_due zero) = word_fits e (ascii "end_speed_limits")
  mdf-due-fits (M-at.limit_due (suc l)) = limit-fits e

  mdf-place-fits : (p : Place (mdf Field)) → FitPlace e (Mdf.orders Field) the_mdf_line_of (mdf Field) mdf_options mdf_due p
  mdf-place-fits over = tt
  mdf-place-fits (inside b g) = record { row = mdf-row-fits b; owed = mdf-due-fits b }

  pub mdf_exact : (said : List (S (Mdf.orders Field))) (p : Place (mdf Field)) → Came (mdf Field) mdf_lexis the_mdf_line_of SpellsMission Law.SpellsMission M-at.name_due (mdf-needs_in e) said p
      → Exact e (Mdf.orders Field) the_mdf_line_of (mdf Field) mdf_options mdf_due mdf_lexis SpellsMission Law.SpellsMission M-at.name_due (mdf-needs_in e) refl said p
  mdf_exact said p came = listed_exact e (Mdf.orders Field) the_mdf_line_of (mdf Field) mdf_options mdf_due mdf_lexis SpellsMission Law.SpellsMission M-at.name_due (mdf-needs_in e) refl said p came (mdf-place-fits p)

  -- ## Which listed form a line that may stand is opened as, L8 aside: of 7
  pub rndf-opened : (said : List (S (Rndf.lines Field))) (p : Place rndf-places) → Came (Machine.lenient rndf-places) (rndf_lexis_in e) (rndf_line_in_of e) (SpellsNetworkBy (under e false)) Law.SpellsNetwork name_due (rndf-lenient-needs_in e) said p
      → (f : Field) (line : Line) → Opens f line → Begins (lenient (reading (law_of e))) Law.SpellsNetwork (laws (rndf_line_in_of e) said ++ (line ∷ [])) → (form : Form) × Among form (listed (Machine.lenient rndf-places) (rndf_options e) (rndf_due e) p) × OpensForm f form
  rndf-opened said p came =
      let y = subst (GoodOut (Machine.lenient rndf-places) Bounded) came (run-good (Machine.lenient rndf-places) Bounded (keeps e) (at rndf-places name_due) said tt) in
      listed-opened e (Rndf.lines Field) (rndf_line_in_of e) (Machine.lenient rndf-places) (rndf_options e) (rndf_due e) (rndf_lexis_in e) (SpellsNetworkBy (under e false)) Law.SpellsNetwork name_due (rndf-lenient-needs_in e) refl said p came (rndf-lenient-fits p y)

  pub mdf-lenient-fits : (p : Place (mdf Field)) → FitPlace e (Mdf.orders Field) the_mdf_line_of (Machine.lenient (mdf Field)) mdf_options mdf_due p
  mdf-lenient-fits over = tt
  mdf-lenient-fits (inside b g) = record { row = mdf-row-fits b; owed = mdf-due-fits b }

  pub mdf-lenient_exact : (said : List (S (Mdf.orders Field))) (p : Place (mdf Field)) → Came (Machine.lenient (mdf Field)) mdf_lexis the_mdf_line_of SpellsMission Law.SpellsMission M-at.name_due (mdf-lenient-needs_in e) said p
      → Exact e (Mdf.orders Field) the_mdf_line_of (Machine.lenient (mdf Field)) mdf_options mdf_due mdf_lexis SpellsMission Law.SpellsMission M-at.name_due (mdf-lenient-needs_in e) refl said p
  mdf-lenient_exact said p came = listed_exact e (Mdf.orders Field) the_mdf_line_of (Machine.lenient (mdf Field)) mdf_options mdf_due mdf_lexis SpellsMission Law.SpellsMission M-at.name_due (mdf-lenient-needs_in e) refl said p came (mdf-lenient-fits p)

  pub mdf-opened : (said : List (S (Mdf.orders Field))) (p : Place (mdf Field)) → Came (Machine.lenient (mdf Field)) mdf_lexis the_mdf_line_of SpellsMission Law.SpellsMission M-at.name_due (mdf-lenient-needs_in e) said p
      → (f : Field) (line : Line) → Opens f line → Begins (lenient (reading (law_of e))) Law.SpellsMission (laws the_mdf_line_of said ++ (line ∷ [])) → (form : Form) × Among form (listed (Machine.lenient (mdf Field)) mdf_options mdf_due p) × OpensForm f form
  mdf-opened said p came = listed-opened e (Mdf.orders Field) the_mdf_line_of (Machine.lenient (mdf Field)) mdf_options mdf_due mdf_lexis SpellsMission Law.SpellsMission M-at.name_due (mdf-lenient-needs_in e) refl said p came (mdf-lenient-fits p)

  -- ## Which listed form says a line that may stand, L8 aside: of 8 and 9
  pub rndf-says : (said : List (S (Rndf.lines Field))) (p : Place rndf-places) → Came (Machine.lenient rndf-places) (rndf_lexis_in e) (rndf_line_in_of e) (SpellsNetworkBy (under e false)) Law.SpellsNetwork name_due (rndf-lenient-needs_in e) said p
      → (line : Line) → Begins (lenient (reading (law_of e))) Law.SpellsNetwork (laws (rndf_line_in_of e) said ++ (line ∷ [])) → (form : Form) × Among form (listed (Machine.lenient rndf-places) (rndf_options e) (rndf_due e) p) × (Heads form line × OnLine e (Law.word []) form line)
  rndf-says said p came =
      let y = subst (GoodOut (Machine.lenient rndf-places) Bounded) came (run-good (Machine.lenient rndf-places) Bounded (keeps e) (at rndf-places name_due) said tt) in
      listed-says e (Rndf.lines Field) (rndf_line_in_of e) (Machine.lenient rndf-places) (rndf_options e) (rndf_due e) (rndf_lexis_in e) (SpellsNetworkBy (under e false)) Law.SpellsNetwork name_due (rndf-lenient-needs_in e) refl said p came (rndf-lenient-fits p y)

  pub mdf-says : (said : List (S (Mdf.orders Field))) (p : Place (mdf Field)) → Came (Machine.lenient (mdf Field)) mdf_lexis the_mdf_line_of SpellsMission Law.SpellsMission M-at.name_due (mdf-lenient-needs_in e) said p
      → (line : Line) → Begins (lenient (reading (law_of e))) Law.SpellsMission (laws the_mdf_line_of said ++ (line ∷ [])) → (form : Form) × Among form (listed (Machine.lenient (mdf Field)) mdf_options mdf_due p) × (Heads form line × OnLine e (Law.word []) form line)
  mdf-says said p came = listed-says e (Mdf.orders Field) the_mdf_line_of (Machine.lenient (mdf Field)) mdf_options mdf_due mdf_lexis SpellsMission Law.SpellsMission M-at.name_due (mdf-lenient-needs_in e) refl said p came (mdf-lenient-fits p)
