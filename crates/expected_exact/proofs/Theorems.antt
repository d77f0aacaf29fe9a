-- THE THEOREMS: behind lines that begin a well-formed file, what is listed at their place is exactly what may stand (ListsLines), in each edition, with L8 and without; so it is what is to be told of 5, 6, 10 and 25. Assumes nothing.
use mathlib.Core.Path.{◌≡◌, refl, sym, subst}
use mathlib.Core.List.{List, [], ◌∷◌, ◌++◌}
use mathlib.Core.Bool.{Bool, true, false}
use mathlib.Core.Logic.{inl, inr}
use Prim.Native.Nat.{ℕ, zero, suc, ◌≤◌}
use native.Mathlib.Omega.{arith}
use lib.Dec.{T}
use Rattle.terms.specs.Ascii.{Bytes, ascii}
use Rattle.scan.specs.Reach.{begins}
use Rattle.terms.specs.Words.{Each, Among}
use Rattle.line.specs.Content.{Field}
use Rattle.number.specs.Decimal.{decimal}
use Rattle.grammar.specs.Editions.{Edition, march, december, law_of}
use Rattle.grammar.specs.Language.{S}
use Rattle.grammar.specs.Statements as Rndf
use Rattle.grammar.specs.MissionStatements as Mdf
use Rattle.grammar.specs.Network.{under, SpellsNetworkBy}
use Rattle.grammar.specs.Mission.{SpellsMission}
use Rattle.grammar.specs.Machine.{over, inside, Place, at}
use Rattle.grammar.specs.Machine as Machine
use Rattle.grammar.specs.Permitted.{own_checkpoint_of, own_exit_of, perimeter_exit?}
use Rattle.grammar.specs.Network as Net
use Rattle.grammar.specs.Places.{rndf_by, Base, name_due, num_segments_due, num_zones_due, first_segment_due, part_due, num_lanes_due, first_lane_due, lane_due, num_waypoints_due, first_waypoint_due, waypoint_due, num_spots_due, perimeter_due, num_perimeterpoints_due, first_perimeterpoint_due, perimeterpoint_due, spot_due, first_of_spot_due, second_of_spot_due, end_spot_due}
use Rattle.grammar.specs.MissionPlaces.{mdf}
use Rattle.grammar.specs.MissionPlaces as M-at
use Rattle.grammar.proofs.Keeping.{GoodPlace, GoodOut, run-good}
use Rattle.grammar.proofs.FormLaws as By
use Rattle.text.specs.RndfLines.{rndf_line_in_of}
use Rattle.text.specs.MdfLines.{the_mdf_line_of}
use Rattle.text.specs.RndfWords.{rndf_lexis_in}
use Rattle.text.specs.MdfWords.{mdf_lexis}
use Rattle.law.specs.Network.{Line, reading, lenient}
use Rattle.law.specs.Network as Law
use Rattle.law.specs.Faults.{Begins, MayStand, BadLine, Unended}
use Rattle.law_faults.proofs.Needs.{Values}
use Rattle.law_faults.proofs.Reached.{laws, Came, begins-back}
use Rattle.law_faults.proofs.Rndf.{rndf-needs_in, rndf-lenient-needs_in}
use Rattle.law_faults.proofs.Mdf.{mdf-needs_in, mdf-lenient-needs_in}
use Rattle.law_columns.proofs.One.{reached}
use Rattle.expected_law.specs.Expected.{Item, ceiling, InRanges, Form, Allows, AllowsFields, last_bytes, ListsLines, ListsField, lines, fields, ExpectedBehind, Expected, unknown, miscounted}
use Rattle.expected_law.specs.Expected as Told
use Rattle.expected_exact.specs.Listed.{listed, rndf_options, rndf_due, rndf_listed, mdf_options, mdf_due, mdf_listed, open_options}
use Rattle.expected_law.specs.Items as Items
use Rattle.expected_exact.proofs.Live.{Alive, Instance, item_lives, lives-on, form_lives, all_live, limit_lives, each_open, each-ready}
use Rattle.expected_exact.proofs.Files.{rndf_exact, rndf-lenient_exact, rndf-opened, rndf-says, mdf_exact, mdf-lenient_exact, mdf-opened, mdf-says}
use Rattle.expected_exact.proofs.Fields.{apart?, lists-field}

-- ## No form is idle
module _ (e : Edition) where
  abbrev rndf-places : Machine.Machine (Rndf.lines Field)
  rndf-places = rndf_by Field (under e true)

  fewest-low : (d : Edition) → Law.fewest_spots d ≤ 32768
  fewest-low march = omega arith
  fewest-low december = omega arith

  yellow : (d : Edition) → Among Law.double_yellow_of (Law.boundaries d)
  yellow march = inl refl
  yellow december = inl refl

  pub options_live : (b : Base) → Values rndf-places b → Each (λ form. Each Alive form) (rndf_options e b)
  options_live name_due v = tt
  options_live num_segments_due v = tt
  options_live (num_zones_due o) v = tt
  options_live (first_segment_due o z) v = ((tt, (tt, tt)), ((tt, (tt, tt)), tt))
  options_live (part_due m o z) v = tt
  options_live (num_lanes_due m o z) v = tt
  options_live (first_lane_due m o z l) v = ((tt, (tt, tt)), tt)
  options_live (lane_due m o z n l) v = tt
  options_live (num_waypoints_due m o z n l) v = tt
  options_live (first_waypoint_due m o z n l w) v =
      let c = v.1.1.1.0 in
      let b = (By.pick (own_checkpoint_of m n 1 w) c.0 c.1).1.waypoint in
      let lo = b.low in
      let hi = b.high in
      let some : 1 ≤ w = omega arith in
      let own : Alive (Items.own m n 1 w) = (omega arith, (omega arith, (some, tt))) in
      ((tt, ((omega arith, tt), tt)), ((tt, (yellow e, tt)), ((tt, (yellow e, tt)), ((tt, (own, ((omega arith, tt), tt))), ((tt, (own, tt)), ((tt, (own, ((omega arith, (omega arith, (omega arith, tt))), tt))), tt))))))
  options_live (waypoint_due m o z n l k w) v = tt
  options_live (num_spots_due m z) v = tt
  options_live (perimeter_due m z s) v = ((tt, (tt, tt)), tt)
  options_live (num_perimeterpoints_due m z s) v = tt
  options_live (first_perimeterpoint_due m z s p) v =
      let c = v.0 in
      let b = (By.pick (own_exit_of m 0 (Net.GoodPerimeterExit p) (perimeter_exit? p)) c.0 c.1).1.waypoint in
      let lo = b.low in
      let hi = b.high in
      let some : 1 ≤ p = omega arith in
      ((tt, ((omega arith, (omega arith, (some, tt))), ((omega arith, (omega arith, (omega arith, tt))), tt))), tt)
  options_live (perimeterpoint_due m z s k p) v = tt
  options_live (spot_due m z n s) v = tt
  options_live (first_of_spot_due m z n s) v = ((tt, ((omega arith, tt), tt)), ((tt, ((omega arith, (omega arith, (omega arith, tt))), ((omega arith, tt), tt))), tt))
  options_live (second_of_spot_due m z n s) v = tt
  options_live (end_spot_due m z n s) v = tt

  pub due_live : (b : Base) → Each Alive (rndf_due e b)
  due_live name_due = (tt, (tt, tt))
  due_live num_segments_due = (tt, ((omega arith, tt), tt))
  due_live (num_zones_due o) = (tt, ((omega arith, tt), tt))
  due_live (first_segment_due o z) = (tt, ((omega arith, tt), tt))
  due_live (part_due m (suc o) z) = (tt, ((omega arith, tt), tt))
  due_live (part_due m zero (suc z)) = (tt, ((omega arith, tt), tt))
  due_live (part_due m zero zero) = (tt, tt)
  due_live (num_lanes_due m o z) = (tt, ((omega arith, tt), tt))
  due_live (first_lane_due m o z l) = (tt, ((omega arith, (omega arith, tt)), tt))
  due_live (lane_due m o z n zero) = (tt, tt)
  due_live (lane_due m o z n (suc l)) = (tt, ((omega arith, (omega arith, tt)), tt))
  due_live (num_waypoints_due m o z n l) = (tt, ((omega arith, tt), tt))
  due_live (first_waypoint_due m o z n l w) = ((omega arith, (omega arith, (omega arith, tt))), (tt, (tt, tt)))
  due_live (waypoint_due m o z n l k zero) = (tt, tt)
  due_live (waypoint_due m o z n l k (suc w)) = ((omega arith, (omega arith, (omega arith, tt))), (tt, (tt, tt)))
  due_live (num_spots_due m z) = (tt, ((fewest-low e, tt), tt))
  due_live (perimeter_due m z s) = (tt, ((omega arith, (omega arith, tt)), tt))
  due_live (num_perimeterpoints_due m z s) = (tt, ((omega arith, tt), tt))
  due_live (first_perimeterpoint_due m z s p) = ((omega arith, (omega arith, (omega arith, tt))), (tt, (tt, tt)))
  due_live (perimeterpoint_due m z s k zero) = (tt, tt)
  due_live (perimeterpoint_due m z s k (suc p)) = ((omega arith, (omega arith, (omega arith, tt))), (tt, (tt, tt)))
  due_live (spot_due m z n zero) = (tt, tt)
  due_live (spot_due m z n (suc s)) = (tt, ((omega arith, (omega arith, tt)), tt))
  due_live (first_of_spot_due m z n s) = ((omega arith, (omega arith, (omega arith, tt))), (tt, (tt, tt)))
  due_live (second_of_spot_due m z n s) = ((omega arith, (omega arith, (omega arith, tt))), (tt, (tt, tt)))
  due_live (end_spot_due m z n s) = (tt, tt)

  place_live : (p : Place rndf-places) → GoodPlace rndf-places (Values rndf-places) p → Each Instance (rndf_listed (under e true) p)
  unfolding listed
  place_live over v = tt
  place_live (inside b g) v = each-ready Instance (rndf-places.ready b g) (rndf_due e b) (open_options (Rndf.lines Field) (rndf-places.opts b) g (rndf_options e b)) (form_lives (rndf_due e b) (due_live b)) (each_open Instance (Rndf.lines Field) (rndf-places.opts b) g (rndf_options e b) (all_live (rndf_options e b) (options_live b v)))

  lenient_live : (p : Place rndf-places) → GoodPlace rndf-places (Values rndf-places) p → Each Instance (listed (Machine.lenient rndf-places) (rndf_options e) (rndf_due e) p)
  unfolding listed
  lenient_live over v = tt
  lenient_live (inside b g) v = (form_lives (rndf_due e b) (due_live b), each_open Instance (Rndf.lines Field) (rndf-places.opts b) g (rndf_options e b) (all_live (rndf_options e b) (options_live b v)))

  -- ## RNDF
  -- behind statements that lead to a place
  pub rndf-lists-at : (said : List (S (Rndf.lines Field))) (p : Place rndf-places) → Came rndf-places (rndf_lexis_in e) (rndf_line_in_of e) (SpellsNetworkBy (under e true)) Law.SpellsNetwork name_due (rndf-needs_in e) said p
      → ListsLines (reading (law_of e)) Law.SpellsNetwork (laws (rndf_line_in_of e) said) (rndf_listed (under e true) p)
  rndf-lists-at said p came =
      let x = rndf_exact e said p came in
      let N = rndf-needs_in e in
      (x, place_live p (subst (GoodOut rndf-places (Values rndf-places)) came (run-good rndf-places (Values rndf-places) (λ b y. N.values_after b) (at rndf-places name_due) said N.values_first)))

  pub rndf-lenient-lists-at : (said : List (S (Rndf.lines Field))) (p : Place rndf-places) → Came (Machine.lenient rndf-places) (rndf_lexis_in e) (rndf_line_in_of e) (SpellsNetworkBy (under e false)) Law.SpellsNetwork name_due (rndf-lenient-needs_in e) said p
      → ListsLines (lenient (reading (law_of e))) Law.SpellsNetwork (laws (rndf_line_in_of e) said) (listed (Machine.lenient rndf-places) (rndf_options e) (rndf_due e) p)
  rndf-lenient-lists-at said p came =
      let x = rndf-lenient_exact e said p came in
      let N = rndf-lenient-needs_in e in
      (x, lenient_live p (subst (GoodOut (Machine.lenient rndf-places) (Values rndf-places)) came (run-good (Machine.lenient rndf-places) (Values rndf-places) (λ b y. N.values_after b) (at rndf-places name_due) said N.values_first)))

  -- behind lines that begin a well-formed RNDF
  pub rndf-lists : (front : List Line) → Begins (reading (law_of e)) Law.SpellsNetwork front → (p : Place rndf-places) × ListsLines (reading (law_of e)) Law.SpellsNetwork front (rndf_listed (under e true) p)
  rndf-lists front b =
      let x = begins-back rndf-places (rndf_lexis_in e) (rndf_line_in_of e) (SpellsNetworkBy (under e true)) Law.SpellsNetwork name_due (rndf-needs_in e) front b in
      (x.1, subst (λ (l : List Line). ListsLines (reading (law_of e)) Law.SpellsNetwork l (rndf_listed (under e true) x.1)) (sym x.2) (rndf-lists-at x.0 x.1 x.3))

  -- 5, 6 and 25
  pub rndf-expected : (text : Bytes) (i n : ℕ) (bad : BadLine (reading (law_of e)) Law.SpellsNetwork text i n) → Among n (5 ∷ 6 ∷ 25 ∷ []) → (f : Field) (fs : List Field) → (forms : List Form) × Expected (reading (law_of e)) Law.SpellsNetwork bad.front f fs n (lines 0 forms)
  rndf-expected text i n bad a f fs = let x = rndf-lists bad.front bad.begins in (rndf_listed (under e true) x.0, unknown a (Told.without_count x.1))

  -- 10
  pub rndf-expected-end : (text : Bytes) (i : ℕ) (short : Unended (reading (law_of e)) Law.SpellsNetwork text i) → (forms : List Form) × ExpectedBehind (reading (law_of e)) Law.SpellsNetwork short.said (lines 0 forms)
  rndf-expected-end text i short = let x = rndf-lists short.said short.begins in (rndf_listed (under e true) x.0, Told.without_count x.1)

  -- ## MDF
  pub mdf-options_live : (b : M-at.Base) → Each (λ form. Each Alive form) (mdf_options b)
  mdf-options_live M-at.name_due = tt
  mdf-options_live M-at.RNDF_due = tt
  mdf-options_live M-at.checkpoints_due = ((tt, (tt, tt)), ((tt, (tt, tt)), tt))
  mdf-options_live M-at.num_checkpoints_due = tt
  mdf-options_live M-at.speed_limits_due = tt
  mdf-options_live M-at.num_speed_limits_due = tt
  mdf-options_live M-at.end_file_due = tt
  mdf-options_live (M-at.goal_due g) = tt
  mdf-options_live (M-at.limit_due l) = tt

  mdf-due_live : (b : M-at.Base) → Instance (mdf_due b)
  mdf-due_live M-at.name_due = form_lives (mdf_due M-at.name_due) (tt, (tt, tt))
  mdf-due_live M-at.RNDF_due = form_lives (mdf_due M-at.RNDF_due) (tt, (tt, tt))
  mdf-due_live M-at.checkpoints_due = form_lives (mdf_due M-at.checkpoints_due) (tt, tt)
  mdf-due_live M-at.num_checkpoints_due = form_lives (mdf_due M-at.num_checkpoints_due) (tt, ((omega arith, tt), tt))
  mdf-due_live M-at.speed_limits_due = form_lives (mdf_due M-at.speed_limits_due) (tt, tt)
  mdf-due_live M-at.num_speed_limits_due = form_lives (mdf_due M-at.num_speed_limits_due) (tt, ((omega arith, tt), tt))
  mdf-due_live M-at.end_file_due = form_lives (mdf_due M-at.end_file_due) (tt, tt)
  mdf-due_live (M-at.goal_due zero) = form_lives (mdf_due (M-at.goal_due zero)) (tt, tt)
  mdf-due_live (M-at.goal_due (suc g)) = form_lives (mdf_due (M-at.goal_due (suc g))) ((omega arith, tt), tt)
  mdf-due_live (M-at.limit_due zero) = form_lives (mdf_due (M-at.limit_due zero)) (tt, tt)
  mdf-due_live (M-at.limit_due (suc l)) = limit_lives

  mdf-place_live : (p : Place (mdf Field)) → Each Instance (mdf_listed p)
  unfolding listed
  mdf-place_live over = tt
  mdf-place_live (inside b g) = (mdf-due_live b, each_open Instance (Mdf.orders Field) (M-at.opts Field b) g (mdf_options b) (all_live (mdf_options b) (mdf-options_live b)))

  pub mdf-lists-at : (said : List (S (Mdf.orders Field))) (p : Place (mdf Field)) → Came (mdf Field) mdf_lexis the_mdf_line_of SpellsMission Law.SpellsMission M-at.name_due (mdf-needs_in e) said p
      → ListsLines (reading (law_of e)) Law.SpellsMission (laws the_mdf_line_of said) (mdf_listed p)
  mdf-lists-at said p came = (mdf_exact e said p came, mdf-place_live p)

  pub mdf-lists : (front : List Line) → Begins (reading (law_of e)) Law.SpellsMission front → (p : Place (mdf Field)) × ListsLines (reading (law_of e)) Law.SpellsMission front (mdf_listed p)
  mdf-lists front b =
      let x = begins-back (mdf Field) mdf_lexis the_mdf_line_of SpellsMission Law.SpellsMission M-at.name_due (mdf-needs_in e) front b in
      (x.1, subst (λ (l : List Line). ListsLines (reading (law_of e)) Law.SpellsMission l (mdf_listed x.1)) (sym x.2) (mdf-lists-at x.0 x.1 x.3))

  pub mdf-expected : (text : Bytes) (i n : ℕ) (bad : BadLine (reading (law_of e)) Law.SpellsMission text i n) → Among n (5 ∷ 6 ∷ 25 ∷ []) → (f : Field) (fs : List Field) → (forms : List Form) × Expected (reading (law_of e)) Law.SpellsMission bad.front f fs n (lines 0 forms)
  mdf-expected text i n bad a f fs = let x = mdf-lists bad.front bad.begins in (mdf_listed x.0, unknown a (Told.without_count x.1))

  pub mdf-expected-end : (text : Bytes) (i : ℕ) (short : Unended (reading (law_of e)) Law.SpellsMission text i) → (forms : List Form) × ExpectedBehind (reading (law_of e)) Law.SpellsMission short.said (lines 0 forms)
  mdf-expected-end text i short = let x = mdf-lists short.said short.begins in (mdf_listed x.0, Told.without_count x.1)

  mdf-lenient_live : (p : Place (mdf Field)) → Each Instance (listed (Machine.lenient (mdf Field)) mdf_options mdf_due p)
  unfolding listed
  mdf-lenient_live over = tt
  mdf-lenient_live (inside b g) = (mdf-due_live b, each_open Instance (Mdf.orders Field) (M-at.opts Field b) g (mdf_options b) (all_live (mdf_options b) (mdf-options_live b)))

  -- ## 7: the form, of those that may stand here, that the first field opens
  pub rndf-expected-fields : (front : List Line) (f : Field) (fs : List Field) (line : Line) → MayStand (reading (law_of e)) Law.SpellsNetwork front f line → (form : Form) × Expected (reading (law_of e)) Law.SpellsNetwork front f fs 7 (fields form)
  rndf-expected-fields front f fs line m =
      let x = reached (Machine.lenient rndf-places) (rndf_lexis_in e) (rndf_line_in_of e) (SpellsNetworkBy (under e false)) Law.SpellsNetwork name_due (rndf-lenient-needs_in e) front line m.1 in
      let y = rndf-opened e x.0 x.1 x.3 f line m.0 (subst (λ (l : List Line). Begins (lenient (reading (law_of e))) Law.SpellsNetwork (l ++ (line ∷ []))) x.2 m.1) in
      (y.0, miscounted (listed (Machine.lenient rndf-places) (rndf_options e) (rndf_due e) x.1) (subst (λ (l : List Line). ListsLines (lenient (reading (law_of e))) Law.SpellsNetwork l (listed (Machine.lenient rndf-places) (rndf_options e) (rndf_due e) x.1)) (sym x.2) (rndf-lenient-lists-at x.0 x.1 x.3)) y.1 y.2)

  pub mdf-expected-fields : (front : List Line) (f : Field) (fs : List Field) (line : Line) → MayStand (reading (law_of e)) Law.SpellsMission front f line → (form : Form) × Expected (reading (law_of e)) Law.SpellsMission front f fs 7 (fields form)
  mdf-expected-fields front f fs line m =
      let x = reached (Machine.lenient (mdf Field)) mdf_lexis the_mdf_line_of SpellsMission Law.SpellsMission M-at.name_due (mdf-lenient-needs_in e) front line m.1 in
      let y = mdf-opened e x.0 x.1 x.3 f line m.0 (subst (λ (l : List Line). Begins (lenient (reading (law_of e))) Law.SpellsMission (l ++ (line ∷ []))) x.2 m.1) in
      let lists : ListsLines (lenient (reading (law_of e))) Law.SpellsMission (laws the_mdf_line_of x.0) (listed (Machine.lenient (mdf Field)) mdf_options mdf_due x.1) = (mdf-lenient_exact e x.0 x.1 x.3, mdf-lenient_live x.1) in
      (y.0, miscounted (listed (Machine.lenient (mdf Field)) mdf_options mdf_due x.1) (subst (λ (l : List Line). ListsLines (lenient (reading (law_of e))) Law.SpellsMission l (listed (Machine.lenient (mdf Field)) mdf_options mdf_due x.1)) (sym x.2) lists) y.1 y.2)

  -- ## 8 and 9: the next field, behind fields that are permitted
  rndf-apart : (b : Base) → T (apart? (rndf_due e b ∷ rndf_options e b))
  unfolding ascii begins
  rndf-apart name_due = tt
  rndf-apart num_segments_due = tt
  rndf-apart (num_zones_due o) = tt
  rndf-apart (first_segment_due o z) = tt
  rndf-apart (part_due m (suc o) z) = tt
  rndf-apart (part_due m zero (suc z)) = tt
  rndf-apart (part_due m zero zero) = tt
  rndf-apart (num_lanes_due m o z) = tt
  rndf-apart (first_lane_due m o z l) = tt
  rndf-apart (lane_due m o z n zero) = tt
  rndf-apart (lane_due m o z n (suc l)) = tt
  rndf-apart (num_waypoints_due m o z n l) = tt
  rndf-apart (first_waypoint_due m o z n l w) = tt
  rndf-apart (waypoint_due m o z n l k zero) = tt
  rndf-apart (waypoint_due m o z n l k (suc w)) = tt
  rndf-apart (num_spots_due m z) = tt
  rndf-apart (perimeter_due m z s) = tt
  rndf-apart (num_perimeterpoints_due m z s) = tt
  rndf-apart (first_perimeterpoint_due m z s p) = tt
  rndf-apart (perimeterpoint_due m z s k zero) = tt
  rndf-apart (perimeterpoint_due m z s k (suc p)) = tt
  rndf-apart (spot_due m z n zero) = tt
  rndf-apart (spot_due m z n (suc s)) = tt
  rndf-apart (first_of_spot_due m z n s) = tt
  rndf-apart (second_of_spot_due m z n s) = tt
  rndf-apart (end_spot_due m z n s) = tt

  of-each : (P : Form → Type 0) (forms : List Form) → Each P forms → (form : Form) → Among form forms → P form
  of-each P [] h form m = absurd m
  of-each P (a ∷ forms) h form (inl i) = subst P (sym i) h.0
  of-each P (a ∷ forms) h form (inr m) = of-each P forms h.1 form m

  each_more : (P Q : Form → Type 0) → ((form : Form) → P form → Q form) → (forms : List Form) → Each P forms → Each Q forms
  each_more P Q f [] h = tt
  each_more P Q f (a ∷ forms) h = (f a h.0, each_more P Q f forms h.1)

  all_among : (forms : List Form) → Each (λ form. Among form forms) forms
  all_among [] = tt
  all_among (a ∷ forms) = (inl refl, each_more (λ form. Among form forms) (λ form. Among form (a ∷ forms)) (λ form m. inr m) forms (all_among forms))

  split-alive : (pre : Form) (item : Item) (post : Form) → Each Alive (pre ++ (item ∷ post)) → Alive item × Each Alive post
  split-alive [] item post h = h
  split-alive (i ∷ pre) item post h = split-alive pre item post h.1

  pub rndf-lists-field : (said : List (S (Rndf.lines Field))) (b : Base) (g : List Bool) → Came (Machine.lenient rndf-places) (rndf_lexis_in e) (rndf_line_in_of e) (SpellsNetworkBy (under e false)) Law.SpellsNetwork name_due (rndf-lenient-needs_in e) said (inside b g)
      → (i : Item) (pre : Form) (item : Item) (post : Form) → Among (i ∷ (pre ++ (item ∷ post))) (listed (Machine.lenient rndf-places) (rndf_options e) (rndf_due e) (inside b g)) → (f : Field) (fs : List Field) → AllowsFields [] (i ∷ pre) (f ∷ fs)
      → ListsField (reading (law_of e)) Law.SpellsNetwork (laws (rndf_line_in_of e) said) (f ∷ fs) item
  unfolding listed
  rndf-lists-field said b g came i pre item post m f fs a =
      let forms = listed (Machine.lenient rndf-places) (rndf_options e) (rndf_due e) (inside b g) in
      let all : List Form = rndf_due e b ∷ rndf_options e b in
      let N = rndf-lenient-needs_in e in
      let v : Values rndf-places b = subst (GoodOut (Machine.lenient rndf-places) (Values rndf-places)) came (run-good (Machine.lenient rndf-places) (Values rndf-places) (λ b y. N.values_after b) (at rndf-places name_due) said N.values_first) in
      let within : Each (λ form. Among form all) forms = (inl refl, each_open (λ form. Among form all) (Rndf.lines Field) (rndf-places.opts b) g (rndf_options e b) (each_more (λ form. Among form (rndf_options e b)) (λ form. Among form all) (λ form m. inr m) (rndf_options e b) (all_among (rndf_options e b)))) in
      let alive : Each (λ form. Each Alive form) forms = (due_live b, each_open (λ form. Each Alive form) (Rndf.lines Field) (rndf-places.opts b) g (rndf_options e b) (options_live b v)) in
      let lives = split-alive (i ∷ pre) item post (of-each (λ form. Each Alive form) forms alive (i ∷ (pre ++ (item ∷ post))) m) in
      lists-field e Law.SpellsNetwork (laws (rndf_line_in_of e) said) forms all (rndf-lenient-lists-at said (inside b g) came) (λ line h. let x = rndf-says e said (inside b g) came line h in (x.0, x.1, x.2.1)) (rndf-apart b) (λ form n. of-each (λ form. Among form all) forms within form n) i pre item post m f fs a (item_lives item lives.0 (last_bytes (f ∷ fs))) (λ g h. lives-on post lives.1 g.bytes)

  mdf-apart : (b : M-at.Base) → T (apart? (mdf_due b ∷ mdf_options b))
  unfolding ascii begins
  mdf-apart M-at.name_due = tt
  mdf-apart M-at.RNDF_due = tt
  mdf-apart M-at.checkpoints_due = tt
  mdf-apart M-at.num_checkpoints_due = tt
  mdf-apart M-at.speed_limits_due = tt
  mdf-apart M-at.num_speed_limits_due = tt
  mdf-apart M-at.end_file_due = tt
  mdf-apart (M-at.goal_due zero) = tt
  mdf-apart (M-at.goal_due (suc g)) = tt
  mdf-apart (M-at.limit_due zero) = tt
  mdf-apart (M-at.limit_due (suc l)) = tt

  -- of an MDF: where the item, and those behind it, have an instance
  pub mdf-lists-field : (said : List (S (Mdf.orders Field))) (b : M-at.Base) (g : List Bool) → Came (Machine.lenient (mdf Field)) mdf_lexis the_mdf_line_of SpellsMission Law.SpellsMission M-at.name_due (mdf-lenient-needs_in e) said (inside b g)
      → (i : Item) (pre : Form) (item : Item) (post : Form) → Among (i ∷ (pre ++ (item ∷ post))) (listed (Machine.lenient (mdf Field)) mdf_options mdf_due (inside b g)) → (f : Field) (fs : List Field) → AllowsFields [] (i ∷ pre) (f ∷ fs)
      → ((c : Bytes) × Allows (last_bytes (f ∷ fs)) item c) → ((h : Field) → Allows (last_bytes (f ∷ fs)) item h.bytes → (gs : List Field) × AllowsFields h.bytes post gs) → ListsField (reading (law_of e)) Law.SpellsMission (laws the_mdf_line_of said) (f ∷ fs) item
  unfolding listed
  mdf-lists-field said b g came i pre item post m f fs a x behind =
      let forms = listed (Machine.lenient (mdf Field)) mdf_options mdf_due (inside b g) in
      let all : List Form = mdf_due b ∷ mdf_options b in
      let within : Each (λ form. Among form all) forms = (inl refl, each_open (λ form. Among form all) (Mdf.orders Field) (M-at.opts Field b) g (mdf_options b) (each_more (λ form. Among form (mdf_options b)) (λ form. Among form all) (λ form m. inr m) (mdf_options b) (all_among (mdf_options b)))) in
      lists-field e Law.SpellsMission (laws the_mdf_line_of said) forms all (mdf-lenient_exact e said (inside b g) came, mdf-lenient_live (inside b g)) (λ line h. let y = mdf-says e said (inside b g) came line h in (y.0, y.1, y.2.1)) (mdf-apart b) (λ form n. of-each (λ form. Among form all) forms within form n) i pre item post m f fs a x behind

  -- a limit's maximum behind its minimum, and its minimum behind its id
  number_is : (a b : ℕ) (x : Bytes) (l : List ℕ) → x ≡ Law.dotted l → InRanges ((a, b) ∷ []) l → (n : ℕ) × (x ≡ decimal n)
  number_is a b x [] q r = absurd r
  number_is a b x (n ∷ []) q r = (n, q)
  number_is a b x (n ∷ m ∷ l) q r = absurd r.1

  nothing_above : (m : ℕ) (x : Bytes) → x ≡ decimal m → Allows x ceiling (decimal 0)
  nothing_above m x q = (m, 0, q, refl, omega arith, λ h. omega arith)

  pub limit-minimum : (said : List (S (Mdf.orders Field))) (l : ℕ) (g : List Bool) → Came (Machine.lenient (mdf Field)) mdf_lexis the_mdf_line_of SpellsMission Law.SpellsMission M-at.name_due (mdf-lenient-needs_in e) said (inside (M-at.limit_due (suc l)) g)
      → (f : Field) → Allows [] Items.an_id f.bytes → ListsField (reading (law_of e)) Law.SpellsMission (laws the_mdf_line_of said) (f ∷ []) Items.a_minimum
  unfolding listed
  limit-minimum said l g came f a = mdf-lists-field said (M-at.limit_due (suc l)) g came Items.an_id [] Items.a_minimum (ceiling ∷ []) (inl refl) f [] (a, tt) (item_lives Items.a_minimum (omega arith, tt) f.bytes)
      (λ h b. let n = number_is 0 Law.largest h.bytes b.0 b.1 b.2 in (record { start = 0; bytes = decimal 0 } ∷ [], (nothing_above n.0 h.bytes n.1, tt)))

  pub limit-maximum : (said : List (S (Mdf.orders Field))) (l : ℕ) (g : List Bool) → Came (Machine.lenient (mdf Field)) mdf_lexis the_mdf_line_of SpellsMission Law.SpellsMission M-at.name_due (mdf-lenient-needs_in e) said (inside (M-at.limit_due (suc l)) g)
      → (f h : Field) → Allows [] Items.an_id f.bytes → Allows f.bytes Items.a_minimum h.bytes → ListsField (reading (law_of e)) Law.SpellsMission (laws the_mdf_line_of said) (f ∷ h ∷ []) ceiling
  unfolding listed
  limit-maximum said l g came f h a b =
      let n = number_is 0 Law.largest h.bytes b.0 b.1 b.2 in
      mdf-lists-field said (M-at.limit_due (suc l)) g came Items.an_id (Items.a_minimum ∷ []) ceiling [] (inl refl) f (h ∷ []) (a, (b, tt)) (decimal 0, nothing_above n.0 h.bytes n.1) (λ k c. ([], tt))
