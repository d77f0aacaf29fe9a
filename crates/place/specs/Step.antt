-- Executable: one step of the reader of an RNDF, over the program's own types: which kinds may stand, which values are permitted, and the place after each. Assumes nothing.
use Rattle.std.specs.Prelude.{Bool, true, false, List, ℕ, suc, pred, ◌-◌, eqb, ltb}
use Rattle.terms.specs.Words.{pick}
use Rattle.grammar.specs.PlaceTable.{cell, rndf_table_of}
use Rattle.number.specs.declared.Id.{Id}
use Rattle.statement.specs.declared.Statement.{Statement}
use Rattle.statement.specs.declared.Statement.TheVariants as st
use Rattle.statement.specs.Kinds.{kind_of}
use Rattle.permitted.specs.Tests.{is_counted, is_at_most, is_up_to, is_the_number, is_the_part, is_the_point, is_own_stop, is_own_checkpoint, is_own_exit, is_perimeter_exit}
use Rattle.permitted.specs.Owed.{owing}
use Rattle.place_table.specs.Cells.{cell_in}
use Rattle.place_table.specs.RndfRows as rows
use Rattle.place.specs.declared.Open.{Open}
use Rattle.place.specs.declared.Open.TheVariants as op
use Rattle.place.specs.declared.Given.{Given}
use Rattle.place.specs.declared.Place.{Place}
use Rattle.place.specs.declared.Around.{Around}

-- ## The open part
abbrev pub major_of : Open → ℕ
major_of op.File = 0
major_of (op.Segment m) = m
major_of (op.Lane m n) = m
major_of (op.Zone m) = m
major_of (op.Perimeter m) = m
major_of (op.Spot m n) = m

abbrev pub minor_of : Open → ℕ
minor_of op.File = 0
minor_of (op.Segment m) = 0
minor_of (op.Lane m n) = n
minor_of (op.Zone m) = 0
minor_of (op.Perimeter m) = 0
minor_of (op.Spot m n) = n

-- the first waypoint that may be a checkpoint: a spot's is its second
abbrev pub first_marked_of : Open → ℕ
first_marked_of op.File = 1
first_marked_of (op.Segment m) = 1
first_marked_of (op.Lane m n) = 1
first_marked_of (op.Zone m) = 1
first_marked_of (op.Perimeter m) = 1
first_marked_of (op.Spot m n) = 2

abbrev pub around_of : Open → Around
around_of op.File = record { part = op.File; due = 0 }
around_of (op.Segment m) = record { part = op.File; due = suc m }
around_of (op.Lane m n) = record { part = op.Segment m; due = suc n }
around_of (op.Zone m) = record { part = op.File; due = suc m }
around_of (op.Perimeter m) = record { part = op.Zone m; due = 1 }
around_of (op.Spot m n) = record { part = op.Zone m; due = suc n }

abbrev pub the_exits_of : Open → ℕ → Id → Id → Bool
the_exits_of op.File w i e = false
the_exits_of (op.Segment m) w i e = false
the_exits_of (op.Lane m n) w i e = is_own_exit m n w i e
the_exits_of (op.Zone m) w i e = false
the_exits_of (op.Perimeter m) w i e = is_perimeter_exit m w i e
the_exits_of (op.Spot m n) w i e = false

-- ## The values of each kind
abbrev pub permits_of : Place → Statement → Bool
permits_of p (st.RndfName a l) = true
permits_of p (st.NumSegments k) = is_counted k
permits_of p (st.NumZones k) = is_up_to p.segments k
permits_of p (st.FormatVersion a l) = true
permits_of p (st.CreationDate a l) = true
permits_of p (st.Segment k) = is_the_number p.due k
permits_of p (st.NumLanes k) = is_counted k
permits_of p (st.SegmentName a l) = true
permits_of p st.EndSegment = true
permits_of p (st.Lane a b) = is_the_part (major_of p.part) p.due a b
permits_of p (st.NumWaypoints k) = is_counted k
permits_of p (st.LaneWidth k) = is_at_most k
permits_of p (st.LeftBoundary b) = true
permits_of p (st.RightBoundary b) = true
permits_of p (st.Checkpoint i k) = is_own_checkpoint (major_of p.part) (minor_of p.part) (first_marked_of p.part) p.points i k
permits_of p (st.Stop i) = is_own_stop (major_of p.part) (minor_of p.part) p.points i
permits_of p (st.Exit i e) = the_exits_of p.part p.points i e
permits_of p st.EndLane = true
permits_of p (st.Zone k) = is_the_number p.due k
permits_of p (st.NumSpots k) = is_at_most k
permits_of p (st.ZoneName a l) = true
permits_of p st.EndZone = true
permits_of p (st.Perimeter a b) = is_the_part (major_of p.part) 0 a b
permits_of p (st.NumPerimeterpoints k) = is_counted k
permits_of p st.EndPerimeter = true
permits_of p (st.Spot a b) = is_the_part (major_of p.part) p.due a b
permits_of p (st.SpotWidth k) = is_counted k
permits_of p st.EndSpot = true
permits_of p st.EndFile = true
permits_of p (st.Point i a o) = is_the_point (major_of p.part) (minor_of p.part) p.due i a o

-- ## The place after each kind, in the row that the table gives
abbrev pub none_given : Given
none_given = record { first = false; second = false; third = false }

abbrev pub placed : Open → (row due o z l w : ℕ) → Place
placed q row due o z l w = record { part = q; row = row; due = due; segments = o; zones = z; parts = l; points = w; given = none_given }

abbrev pub first_place : Place
first_place = placed op.File rows.name_due 0 0 0 0 0

-- a part is opened: one less of its sort is owed; a spot has two points
abbrev pub opened_of : Place → Open → ℕ → Place
opened_of p op.File row = placed op.File row 0 p.segments p.zones p.parts p.points
opened_of p (op.Segment m) row = placed (op.Segment m) row 0 (pred p.segments) p.zones p.parts p.points
opened_of p (op.Lane m n) row = placed (op.Lane m n) row 0 p.segments p.zones (pred p.parts) p.points
opened_of p (op.Zone m) row = placed (op.Zone m) row 0 p.segments (pred p.zones) p.parts p.points
opened_of p (op.Perimeter m) row = placed (op.Perimeter m) row 0 p.segments p.zones p.parts p.points
opened_of p (op.Spot m n) row = placed (op.Spot m n) row 1 p.segments p.zones (pred p.parts) 2

-- the z-th point is passed
abbrev pub passed_of : Place → (z row : ℕ) → Place
passed_of p z row = placed p.part row (suc z) p.segments p.zones p.parts (pred p.points)

-- the part is closed
abbrev pub left_of : Place → ℕ → Place
left_of p row = placed (around_of p.part).part row (around_of p.part).due p.segments p.zones p.parts p.points

abbrev pub after_of : Place → Statement → ℕ → Place
after_of p (st.RndfName a l) row = placed p.part row p.due p.segments p.zones p.parts p.points
after_of p (st.NumSegments k) row = placed p.part row p.due k p.zones p.parts p.points
after_of p (st.NumZones k) row = placed p.part row 1 p.segments k p.parts p.points
after_of p (st.FormatVersion a l) row = placed p.part row p.due p.segments p.zones p.parts p.points
after_of p (st.CreationDate a l) row = placed p.part row p.due p.segments p.zones p.parts p.points
after_of p (st.Segment k) row = opened_of p (op.Segment k) row
after_of p (st.NumLanes k) row = placed p.part row 1 p.segments p.zones k p.points
after_of p (st.SegmentName a l) row = placed p.part row p.due p.segments p.zones p.parts p.points
after_of p st.EndSegment row = left_of p row
after_of p (st.Lane a b) row = opened_of p (op.Lane a b) row
after_of p (st.NumWaypoints k) row = placed p.part row 1 p.segments p.zones p.parts k
after_of p (st.LaneWidth k) row = placed p.part row p.due p.segments p.zones p.parts p.points
after_of p (st.LeftBoundary b) row = placed p.part row p.due p.segments p.zones p.parts p.points
after_of p (st.RightBoundary b) row = placed p.part row p.due p.segments p.zones p.parts p.points
after_of p (st.Checkpoint i k) row = placed p.part row p.due p.segments p.zones p.parts p.points
after_of p (st.Stop i) row = placed p.part row p.due p.segments p.zones p.parts p.points
after_of p (st.Exit i e) row = placed p.part row p.due p.segments p.zones p.parts p.points
after_of p st.EndLane row = left_of p row
after_of p (st.Zone k) row = opened_of p (op.Zone k) row
after_of p (st.NumSpots k) row = placed p.part row p.due p.segments p.zones k p.points
after_of p (st.ZoneName a l) row = placed p.part row p.due p.segments p.zones p.parts p.points
after_of p st.EndZone row = left_of p row
after_of p (st.Perimeter a b) row = opened_of p (op.Perimeter a) row
after_of p (st.NumPerimeterpoints k) row = placed p.part row 1 p.segments p.zones p.parts k
after_of p st.EndPerimeter row = left_of p row
after_of p (st.Spot a b) row = opened_of p (op.Spot a b) row
after_of p (st.SpotWidth k) row = placed p.part row p.due p.segments p.zones p.parts p.points
after_of p st.EndSpot row = left_of p row
after_of p st.EndFile row = placed p.part row 0 p.segments p.zones p.parts p.points
after_of p (st.Point i a o) row = passed_of p i.z row

-- ## Single options, by their slot
abbrev pub has_of : Given → ℕ → Bool
has_of g slot = pick (eqb slot 1) g.first (pick (eqb slot 2) g.second (pick (eqb slot 3) g.third false))

abbrev pub marked_of : Given → ℕ → Given
marked_of g slot =
    pick (eqb slot 1) (record { first = true; second = g.second; third = g.third })
    (pick (eqb slot 2) (record { first = g.first; second = true; third = g.third })
    (pick (eqb slot 3) (record { first = g.first; second = g.second; third = true }) g))

abbrev pub with_given : Place → Given → Place
with_given p g = record { part = p.part; row = p.row; due = p.due; segments = p.segments; zones = p.zones; parts = p.parts; points = p.points; given = g }

abbrev pub opted_of : Place → ℕ → Place
opted_of p slot = with_given p (marked_of p.given slot)

-- ## The table's row
abbrev pub row_at : ℕ → Place → ℕ
row_at row p =
    pick (eqb row rows.segment_due) (owing p.segments rows.segment_due (owing p.zones rows.zone_due rows.end_file_due))
    (pick (eqb row rows.lane_due) (owing p.parts rows.lane_due rows.end_segment_due)
    (pick (eqb row rows.waypoint_due) (owing p.points rows.waypoint_due rows.end_lane_due)
    (pick (eqb row rows.perimeterpoint_due) (owing p.points rows.perimeterpoint_due rows.end_perimeter_due)
    (pick (eqb row rows.spot_due) (owing p.parts rows.spot_due rows.end_zone_due) row))))

unfoldable pub index_of : Place → ℕ
index_of p = row_at p.row p

-- ## The cell of a kind: in any table, so that whoever lends one says which it is
unfoldable pub cell_of : List (List ℕ) → Place → ℕ → ℕ
cell_of table p kind = cell_in 27 30 table (index_of p) kind

-- ## The step: by the cell's number the due statement, an option, or none
-- what it comes to: the next place, or document 01's number. The program tells it in two (`tested`, `moved`)
pub data Outcome : Type 0 where
  Next : Place → Outcome
  Refused : ℕ → Outcome

-- the options given are enough for the due statement: a spot has its checkpoint
abbrev pub ready_of : Place → Bool
ready_of p = pick (eqb p.row rows.first_of_spot_due) p.given.second true

unfoldable pub due_of : Place → Statement → ℕ → Outcome
due_of p s row = pick (permits_of p s) (pick (ready_of p) (Next (after_of p s row)) (Refused 25)) (Refused 9)

unfoldable pub option_of : Place → Statement → ℕ → Outcome
option_of p s slot = pick (has_of p.given slot) (Refused 6) (pick (permits_of p s) (Next (opted_of p slot)) (Refused 9))

unfoldable pub by_cell : Place → Statement → ℕ → Outcome
by_cell p s c = pick (ltb c 128) (due_of p s c) (pick (ltb c 255) (option_of p s (c - 128)) (Refused 5))

-- with the cell of its kind in the table of an RNDF
unfoldable pub step_of : Place → Statement → Outcome
step_of p s = by_cell p s (cell rndf_table_of (index_of p) (kind_of s))

-- ## The same in two parts, of a statement whose kind may stand: what refuses it, and the place behind it
-- 01: 9 "value not permitted here", behind it L8: 25; 0 where the statement is taken
unfoldable pub tested_of : Place → Statement → (cell : ℕ) → ℕ
tested_of p s c = pick (permits_of p s) (pick (ltb c 128) (pick (ready_of p) 0 25) 0) 9

-- by the cell the due statement, or an option
unfoldable pub moved_of : Place → Statement → (cell : ℕ) → Place
moved_of p s c = pick (ltb c 128) (after_of p s c) (opted_of p (c - 128))

-- by the kind alone: 5, 6, or 0 where it may stand
unfoldable pub refuses_by : Given → ℕ → ℕ
refuses_by g c = pick (ltb c 128) 0 (pick (ltb c 255) (pick (has_of g (c - 128)) 6 0) 5)

unfoldable pub refuses_of : Place → ℕ → ℕ
refuses_of p kind = refuses_by p.given (cell rndf_table_of (index_of p) kind)

abbrev pub over_of : Place → Bool
over_of p = eqb p.row rows.over
