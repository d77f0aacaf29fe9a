-- Memories that differ in where names start alone (`Alike`) stay so behind a statement (`put-alike`). Of the tables, those that the references need: what is read of segments, lanes and zones, and the checkpoints. Assumes nothing.
use Rattle.std.specs.Prelude.{Some, None}
use mathlib.Core.Path.{◌≡◌, refl, sym, ap, subst, ◌∙◌}
use mathlib.Core.Bool.{Bool, true, false}
use mathlib.Core.List.{List}
use mathlib.Core.Option.{Option, none, some}
use Prim.Native.Nat.{ℕ, ◌<◌, ◌≤◌}
use native.Mathlib.Omega.{arith}
use lib.ListN.{length, get_or}
use lib.Dec.{eqb, ltb}
use borrow.Author.Tests.{eqb-true, eqb-false, ltb-true, ltb-false}
use Rattle.rows.specs.Lay.{rows_of, row_at, put_row_of}
use Rattle.rows.specs.Read.{segment_at_of, lane_at_of, zone_at_of}
use Rattle.rows.specs.Columns.{segment_words_of, lane_words_of, zone_words_of, checkpoint_words_of}
use Rattle.rows.specs.Strides.{segment_stride, lane_stride, zone_stride, checkpoint_stride}
use Rattle.rows.specs.declared.SegmentRow.{SegmentRow}
use Rattle.rows.specs.declared.LaneRow.{LaneRow}
use Rattle.rows.specs.declared.ZoneRow.{ZoneRow}
use Rattle.rows.specs.declared.CheckpointRow.{CheckpointRow}
use Rattle.rows.proofs.Lay.{put-outside, length-put, put_same, put_other}
use Rattle.statement.specs.declared.Statement.{Statement}
use Rattle.statement.specs.declared.Statement.TheVariants as st
use Rattle.progress.specs.declared.Progress.{Progress}
use Rattle.progress.specs.declared.Row.{Row}
use Rattle.progress.specs.declared.Row.TheVariants as Row
use Rattle.progress.specs.After.{no_name_of, segment_row_of, zone_row_of, after_of}
use Rattle.progress.specs.Given.{row_of}
use Rattle.walk.specs.Standing.{Where}
use Rattle.references.specs.Finding.{look_in}
use Rattle.network.specs.Storing.{Memory, store_numbered_of, stored}
use Rattle.network.specs.Reading.{put}
use Rattle.mend_alike.specs.Plain.{plain, plainly, plain_row}
use Rattle.std.specs.Prelude as Rust
use Rattle.units.specs.declared.CheckpointNumber.{CheckpointNumber}

-- ## Memories
-- tables of segments, of which the same is read but for names
pub record SameSegments (t u : List ℕ) : Type 0 where
  pub long : length t ≡ length u
  pub first_lane : (i : ℕ) → (segment_at_of t i).first_lane ≡ (segment_at_of u i).first_lane
  pub lanes : (i : ℕ) → (segment_at_of t i).lanes ≡ (segment_at_of u i).lanes

-- tables of zones
pub record SameZones (t u : List ℕ) : Type 0 where
  pub long : length t ≡ length u
  pub first_point_of : (i : ℕ) → (zone_at_of t i).first_point ≡ (zone_at_of u i).first_point
  pub points : (i : ℕ) → (zone_at_of t i).points ≡ (zone_at_of u i).points

pub record Alike (m d : Memory) : Type 0 where
  pub so_far : plainly m.so_far ≡ plainly d.so_far
  pub segments : SameSegments m.segments d.segments
  pub lanes : m.lanes ≡ d.lanes
  pub zones : SameZones m.zones d.zones
  pub checkpoints : m.checkpoints ≡ d.checkpoints

pub alike_same : (m : Memory) → Alike m m
alike_same m = record {
  so_far = refl;
  segments = record { long = refl; first_lane = λ i. refl; lanes = λ i. refl };
  lanes = refl;
  zones = record { long = refl; first_point_of = λ i. refl; points = λ i. refl };
  checkpoints = refl;
}

-- ## A row stored in two tables of one length: a column that is the same in both stays so
module _ (stride j : ℕ) (t u : List ℕ) (n : ℕ) (v w : List ℕ) (lv : length v ≡ stride) (lw : length w ≡ stride) (same : get_or v j 0 ≡ get_or w j 0) (long : length t ≡ length u)
    (read : (i : ℕ) → get_or (row_at stride t i) j 0 ≡ get_or (row_at stride u i) j 0) where
  column-put : (i : ℕ) → get_or (row_at stride (put_row_of stride t n v) i) j 0 ≡ get_or (row_at stride (put_row_of stride u n w) i) j 0
  column-put i = go (eqb i n) refl
    where
      inside : (b : Bool) → ltb n (rows_of (length t) stride) ≡ b → get_or (row_at stride (put_row_of stride t n v) n) j 0 ≡ get_or (row_at stride (put_row_of stride u n w) n) j 0
      inside true e =
          let h = ltb-true n (rows_of (length t) stride) e in
          ap (λ (r : List ℕ). get_or r j 0) (put_same stride t n v lv h) ∙ same ∙ sym (ap (λ (r : List ℕ). get_or r j 0) (put_same stride u n w lw (subst (λ (k : ℕ). n < rows_of k stride) long h)))
      inside false e =
          let h = ltb-false n (rows_of (length t) stride) e in
          ap (λ (l : List ℕ). get_or (row_at stride l n) j 0) (put-outside stride t n v h) ∙ read n ∙ sym (ap (λ (l : List ℕ). get_or (row_at stride l n) j 0) (put-outside stride u n w (subst (λ (k : ℕ). rows_of k stride ≤ n) long h)))

      go : (b : Bool) → eqb i n ≡ b → get_or (row_at stride (put_row_of stride t n v) i) j 0 ≡ get_or (row_at stride (put_row_of stride u n w) i) j 0
      go true e = subst (λ (k : ℕ). get_or (row_at stride (put_row_of stride t n v) k) j 0 ≡ get_or (row_at stride (put_row_of stride u n w) k) j 0) (sym (eqb-true i n e)) (inside (ltb n (rows_of (length t) stride)) refl)
      go false e = ap (λ (r : List ℕ). get_or r j 0) (put_other stride t n v lv i (eqb-false i n e)) ∙ read i ∙ sym (ap (λ (r : List ℕ). get_or r j 0) (put_other stride u n w lw i (eqb-false i n e)))

  long-put : length (put_row_of stride t n v) ≡ length (put_row_of stride u n w)
  long-put = length-put stride t n v lv ∙ long ∙ sym (length-put stride u n w lw)

-- ## The row of each table, if it is one of its rows
abbrev segment_in : Row → Option SegmentRow
segment_in Row.Nothing = none
segment_in (Row.Segment a) = some a
segment_in (Row.Lane a) = none
segment_in (Row.Zone a) = none
segment_in (Row.Spot a) = none
segment_in (Row.Point a) = none
segment_in (Row.Checkpoint read k) = none
segment_in (Row.Stop a) = none
segment_in (Row.Exit a) = none

abbrev lane_in : Row → Option LaneRow
lane_in Row.Nothing = none
lane_in (Row.Segment a) = none
lane_in (Row.Lane a) = some a
lane_in (Row.Zone a) = none
lane_in (Row.Spot a) = none
lane_in (Row.Point a) = none
lane_in (Row.Checkpoint read k) = none
lane_in (Row.Stop a) = none
lane_in (Row.Exit a) = none

abbrev zone_in : Row → Option ZoneRow
zone_in Row.Nothing = none
zone_in (Row.Segment a) = none
zone_in (Row.Lane a) = none
zone_in (Row.Zone a) = some a
zone_in (Row.Spot a) = none
zone_in (Row.Point a) = none
zone_in (Row.Checkpoint read k) = none
zone_in (Row.Stop a) = none
zone_in (Row.Exit a) = none

abbrev made : Rust.Option CheckpointNumber → ℕ → Option CheckpointRow
made (Some number) k = some (record { number = number; point = k })
made None k = none

abbrev checkpoint_in : Row → Option CheckpointRow
checkpoint_in Row.Nothing = none
checkpoint_in (Row.Segment a) = none
checkpoint_in (Row.Lane a) = none
checkpoint_in (Row.Zone a) = none
checkpoint_in (Row.Spot a) = none
checkpoint_in (Row.Point a) = none
checkpoint_in (Row.Checkpoint read k) = made read k
checkpoint_in (Row.Stop a) = none
checkpoint_in (Row.Exit a) = none

abbrev put_if : {R : Type 0} → ℕ → (R → List ℕ) → List ℕ → ℕ → Option R → List ℕ
put_if stride words t n none = t
put_if stride words t n (some a) = put_row_of stride t n (words a)

module _ (m : Memory) where
  segments_stored : (r : Row) → (stored r m).segments ≡ put_if segment_stride segment_words_of m.segments m.so_far.segments (segment_in r)
  unfolding stored
  segments_stored Row.Nothing = refl
  segments_stored (Row.Segment a) = refl
  segments_stored (Row.Lane a) = refl
  segments_stored (Row.Zone a) = refl
  segments_stored (Row.Spot a) = refl
  segments_stored (Row.Point a) = refl
  segments_stored (Row.Checkpoint read k) = refl
  segments_stored (Row.Stop a) = refl
  segments_stored (Row.Exit a) = refl

  lanes_stored : (r : Row) → (stored r m).lanes ≡ put_if lane_stride lane_words_of m.lanes m.so_far.lanes (lane_in r)
  unfolding stored
  lanes_stored Row.Nothing = refl
  lanes_stored (Row.Segment a) = refl
  lanes_stored (Row.Lane a) = refl
  lanes_stored (Row.Zone a) = refl
  lanes_stored (Row.Spot a) = refl
  lanes_stored (Row.Point a) = refl
  lanes_stored (Row.Checkpoint read k) = refl
  lanes_stored (Row.Stop a) = refl
  lanes_stored (Row.Exit a) = refl

  zones_stored : (r : Row) → (stored r m).zones ≡ put_if zone_stride zone_words_of m.zones m.so_far.zones (zone_in r)
  unfolding stored
  zones_stored Row.Nothing = refl
  zones_stored (Row.Segment a) = refl
  zones_stored (Row.Lane a) = refl
  zones_stored (Row.Zone a) = refl
  zones_stored (Row.Spot a) = refl
  zones_stored (Row.Point a) = refl
  zones_stored (Row.Checkpoint read k) = refl
  zones_stored (Row.Stop a) = refl
  zones_stored (Row.Exit a) = refl

  checkpoints_stored : (r : Row) → (stored r m).checkpoints ≡ put_if checkpoint_stride checkpoint_words_of m.checkpoints m.so_far.checkpoints (checkpoint_in r)
  unfolding stored store_numbered_of
  checkpoints_stored Row.Nothing = refl
  checkpoints_stored (Row.Segment a) = refl
  checkpoints_stored (Row.Lane a) = refl
  checkpoints_stored (Row.Zone a) = refl
  checkpoints_stored (Row.Spot a) = refl
  checkpoints_stored (Row.Point a) = refl
  checkpoints_stored (Row.Checkpoint (Some number) k) = refl
  checkpoints_stored (Row.Checkpoint None k) = refl
  checkpoints_stored (Row.Stop a) = refl
  checkpoints_stored (Row.Exit a) = refl

-- what is compared of a segment and a zone
abbrev plain-segment : Option SegmentRow → Option SegmentRow
plain-segment none = none
plain-segment (some a) = some (segment_row_of a.first_lane a.lanes no_name_of)

abbrev plain-zone : Option ZoneRow → Option ZoneRow
plain-zone none = none
plain-zone (some a) = some (zone_row_of a.first_point a.points a.first_spot a.spots no_name_of)

segment-plain : (r : Row) → segment_in (plain_row r) ≡ plain-segment (segment_in r)
segment-plain Row.Nothing = refl
segment-plain (Row.Segment a) = refl
segment-plain (Row.Lane a) = refl
segment-plain (Row.Zone a) = refl
segment-plain (Row.Spot a) = refl
segment-plain (Row.Point a) = refl
segment-plain (Row.Checkpoint read k) = refl
segment-plain (Row.Stop a) = refl
segment-plain (Row.Exit a) = refl

lane_plain : (r : Row) → lane_in (plain_row r) ≡ lane_in r
lane_plain Row.Nothing = refl
lane_plain (Row.Segment a) = refl
lane_plain (Row.Lane a) = refl
lane_plain (Row.Zone a) = refl
lane_plain (Row.Spot a) = refl
lane_plain (Row.Point a) = refl
lane_plain (Row.Checkpoint read k) = refl
lane_plain (Row.Stop a) = refl
lane_plain (Row.Exit a) = refl

zone-plain : (r : Row) → zone_in (plain_row r) ≡ plain-zone (zone_in r)
zone-plain Row.Nothing = refl
zone-plain (Row.Segment a) = refl
zone-plain (Row.Lane a) = refl
zone-plain (Row.Zone a) = refl
zone-plain (Row.Spot a) = refl
zone-plain (Row.Point a) = refl
zone-plain (Row.Checkpoint read k) = refl
zone-plain (Row.Stop a) = refl
zone-plain (Row.Exit a) = refl

checkpoint-plain : (r : Row) → checkpoint_in (plain_row r) ≡ checkpoint_in r
checkpoint-plain Row.Nothing = refl
checkpoint-plain (Row.Segment a) = refl
checkpoint-plain (Row.Lane a) = refl
checkpoint-plain (Row.Zone a) = refl
checkpoint-plain (Row.Spot a) = refl
checkpoint-plain (Row.Point a) = refl
checkpoint-plain (Row.Checkpoint read k) = refl
checkpoint-plain (Row.Stop a) = refl
checkpoint-plain (Row.Exit a) = refl

-- ## Rows that are alike, stored
kind-of : {R : Type 0} → Option R → ℕ
kind-of none = 0
kind-of (some a) = 1

never : {R S : Type 0} {a : R} → ◌≡◌ {A = Option R} none (some a) → S
unfolding kind-of
never e = absurd (let z : ◌≡◌ {A = ℕ} 0 1 = ap kind-of e in omega arith)

abbrev or-none : SegmentRow → Option SegmentRow → SegmentRow
or-none d none = d
or-none d (some a) = a

abbrev or-no-zone : ZoneRow → Option ZoneRow → ZoneRow
or-no-zone d none = d
or-no-zone d (some a) = a

segments-alike : (t u : List ℕ) (n : ℕ) (x y : Option SegmentRow) → plain-segment x ≡ plain-segment y → SameSegments t u → SameSegments (put_if segment_stride segment_words_of t n x) (put_if segment_stride segment_words_of u n y)
segments-alike t u n none none e h = h
segments-alike t u n none (some b) e h = never e
segments-alike t u n (some a) none e h = never (sym e)
segments-alike t u n (some a) (some b) e h = record {
  long = long-put segment_stride 0 t u n (segment_words_of a) (segment_words_of b) refl refl (ap (λ (x : Option SegmentRow). (or-none a x).first_lane) e) h.long h.first_lane;
  first_lane = column-put segment_stride 0 t u n (segment_words_of a) (segment_words_of b) refl refl (ap (λ (x : Option SegmentRow). (or-none a x).first_lane) e) h.long h.first_lane;
  lanes = column-put segment_stride 1 t u n (segment_words_of a) (segment_words_of b) refl refl (ap (λ (x : Option SegmentRow). (or-none a x).lanes) e) h.long h.lanes;
}

zones-alike : (t u : List ℕ) (n : ℕ) (x y : Option ZoneRow) → plain-zone x ≡ plain-zone y → SameZones t u → SameZones (put_if zone_stride zone_words_of t n x) (put_if zone_stride zone_words_of u n y)
zones-alike t u n none none e h = h
zones-alike t u n none (some b) e h = never e
zones-alike t u n (some a) none e h = never (sym e)
zones-alike t u n (some a) (some b) e h = record {
  long = long-put zone_stride 0 t u n (zone_words_of a) (zone_words_of b) refl refl (ap (λ (x : Option ZoneRow). (or-no-zone a x).first_point) e) h.long h.first_point_of;
  first_point_of = column-put zone_stride 0 t u n (zone_words_of a) (zone_words_of b) refl refl (ap (λ (x : Option ZoneRow). (or-no-zone a x).first_point) e) h.long h.first_point_of;
  points = column-put zone_stride 1 t u n (zone_words_of a) (zone_words_of b) refl refl (ap (λ (x : Option ZoneRow). (or-no-zone a x).points) e) h.long h.points;
}

-- ## A statement
after-plain : (s : Statement) (p : Progress) → plainly (after_of s p) ≡ plainly (after_of (plain s) (plainly p))
unfolding plain plainly after_of
after-plain (st.RndfName a l) p = refl
after-plain (st.NumSegments n) p = refl
after-plain (st.NumZones n) p = refl
after-plain (st.FormatVersion a l) p = refl
after-plain (st.CreationDate a l) p = refl
after-plain (st.Segment n) p = refl
after-plain (st.NumLanes n) p = refl
after-plain (st.SegmentName a l) p = refl
after-plain st.EndSegment p = refl
after-plain (st.Lane m n) p = refl
after-plain (st.NumWaypoints n) p = refl
after-plain (st.LaneWidth n) p = refl
after-plain (st.LeftBoundary b) p = refl
after-plain (st.RightBoundary b) p = refl
after-plain (st.Checkpoint i n) p = refl
after-plain (st.Stop i) p = refl
after-plain (st.Exit i x) p = refl
after-plain st.EndLane p = refl
after-plain (st.Zone n) p = refl
after-plain (st.NumSpots n) p = refl
after-plain (st.ZoneName a l) p = refl
after-plain st.EndZone p = refl
after-plain (st.Perimeter m n) p = refl
after-plain (st.NumPerimeterpoints n) p = refl
after-plain st.EndPerimeter p = refl
after-plain (st.Spot m n) p = refl
after-plain (st.SpotWidth n) p = refl
after-plain st.EndSpot p = refl
after-plain st.EndFile p = refl
after-plain (st.Point i a o) p = refl

row_plain : (s : Statement) (at : ℕ) (p : Progress) → plain_row (row_of s at p) ≡ plain_row (row_of (plain s) 0 (plainly p))
unfolding plain plainly row_of
row_plain (st.RndfName a l) at p = refl
row_plain (st.NumSegments n) at p = refl
row_plain (st.NumZones n) at p = refl
row_plain (st.FormatVersion a l) at p = refl
row_plain (st.CreationDate a l) at p = refl
row_plain (st.Segment n) at p = refl
row_plain (st.NumLanes n) at p = refl
row_plain (st.SegmentName a l) at p = refl
row_plain st.EndSegment at p = refl
row_plain (st.Lane m n) at p = refl
row_plain (st.NumWaypoints n) at p = refl
row_plain (st.LaneWidth n) at p = refl
row_plain (st.LeftBoundary b) at p = refl
row_plain (st.RightBoundary b) at p = refl
row_plain (st.Checkpoint i n) at p = refl
row_plain (st.Stop i) at p = refl
row_plain (st.Exit i x) at p = refl
row_plain st.EndLane at p = refl
row_plain (st.Zone n) at p = refl
row_plain (st.NumSpots n) at p = refl
row_plain (st.ZoneName a l) at p = refl
row_plain st.EndZone at p = refl
row_plain (st.Perimeter m n) at p = refl
row_plain (st.NumPerimeterpoints n) at p = refl
row_plain st.EndPerimeter at p = refl
row_plain (st.Spot m n) at p = refl
row_plain (st.SpotWidth n) at p = refl
row_plain st.EndSpot at p = refl
row_plain st.EndFile at p = refl
row_plain (st.Point i a o) at p = refl

-- the counts of rows are those of what is compared
module _ (p q : Progress) (e : plainly p ≡ plainly q) where
  pub same-segments : p.segments ≡ q.segments
  unfolding plainly
  same-segments = ap (λ (x : Progress). x.segments) e

  pub same-lanes : p.lanes ≡ q.lanes
  unfolding plainly
  same-lanes = ap (λ (x : Progress). x.lanes) e

  pub same-zones : p.zones ≡ q.zones
  unfolding plainly
  same-zones = ap (λ (x : Progress). x.zones) e

  pub same-checkpoints : p.checkpoints ≡ q.checkpoints
  unfolding plainly
  same-checkpoints = ap (λ (x : Progress). x.checkpoints) e

module _ (v w : Where) (s t : Statement) (m d : Memory) (e : plain s ≡ plain t) (h : Alike m d) where
  rows_alike : plain_row (row_of s v.last m.so_far) ≡ plain_row (row_of t w.last d.so_far)
  rows_alike = row_plain s v.last m.so_far ∙ (λ i. plain_row (row_of (e i) 0 (h.so_far i))) ∙ sym (row_plain t w.last d.so_far)

  abbrev r : Row
  r = row_of s v.last m.so_far

  abbrev q : Row
  q = row_of t w.last d.so_far

  segments_put : SameSegments (stored r m).segments (stored q d).segments
  segments_put =
      let x : plain-segment (segment_in r) ≡ plain-segment (segment_in q) = sym (segment-plain r) ∙ ap segment_in rows_alike ∙ segment-plain q in
      let a = segments-alike m.segments d.segments m.so_far.segments (segment_in r) (segment_in q) x h.segments in
      subst (λ (l : List ℕ). SameSegments l (stored q d).segments) (sym (segments_stored m r))
      (subst (λ (l : List ℕ). SameSegments (put_if segment_stride segment_words_of m.segments m.so_far.segments (segment_in r)) l) (ap (λ (n : ℕ). put_if segment_stride segment_words_of d.segments n (segment_in q)) (same-segments m.so_far d.so_far h.so_far) ∙ sym (segments_stored d q)) a)

  zones_put : SameZones (stored r m).zones (stored q d).zones
  zones_put =
      let x : plain-zone (zone_in r) ≡ plain-zone (zone_in q) = sym (zone-plain r) ∙ ap zone_in rows_alike ∙ zone-plain q in
      let a = zones-alike m.zones d.zones m.so_far.zones (zone_in r) (zone_in q) x h.zones in
      subst (λ (l : List ℕ). SameZones l (stored q d).zones) (sym (zones_stored m r))
      (subst (λ (l : List ℕ). SameZones (put_if zone_stride zone_words_of m.zones m.so_far.zones (zone_in r)) l) (ap (λ (n : ℕ). put_if zone_stride zone_words_of d.zones n (zone_in q)) (same-zones m.so_far d.so_far h.so_far) ∙ sym (zones_stored d q)) a)

  lanes_put : (stored r m).lanes ≡ (stored q d).lanes
  lanes_put =
      let x : lane_in r ≡ lane_in q = sym (lane_plain r) ∙ ap lane_in rows_alike ∙ lane_plain q in
      let n = same-lanes m.so_far d.so_far h.so_far in
      lanes_stored m r ∙ (λ i. put_if lane_stride lane_words_of (h.lanes i) (n i) (x i)) ∙ sym (lanes_stored d q)

  checkpoints_put : (stored r m).checkpoints ≡ (stored q d).checkpoints
  checkpoints_put =
      let x : checkpoint_in r ≡ checkpoint_in q = sym (checkpoint-plain r) ∙ ap checkpoint_in rows_alike ∙ checkpoint-plain q in
      let n = same-checkpoints m.so_far d.so_far h.so_far in
      checkpoints_stored m r ∙ (λ i. put_if checkpoint_stride checkpoint_words_of (h.checkpoints i) (n i) (x i)) ∙ sym (checkpoints_stored d q)

  pub put-alike : Alike (put v s m) (put w t d)
  unfolding put
  put-alike = record {
    so_far = after-plain s m.so_far ∙ (λ i. plainly (after_of (e i) (h.so_far i))) ∙ sym (after-plain t d.so_far);
    segments = segments_put;
    lanes = lanes_put;
    zones = zones_put;
    checkpoints = checkpoints_put;
  }

-- ## What is read of the tables is the same
pub looks-alike : (sm sd lm ld zm zd : Memory) → Alike sm sd → Alike lm ld → Alike zm zd → look_in sm.segments lm.lanes zm.zones ≡ look_in sd.segments ld.lanes zd.zones
looks-alike sm sd lm ld zm zd s l z = λ p. record {
  first_lane = λ i. s.segments.first_lane i p;
  lanes = λ i. s.segments.lanes i p;
  lane_point = λ i. (lane_at_of (l.lanes p) i).first_point;
  lane_points = λ i. (lane_at_of (l.lanes p) i).points;
  zone_point = λ i. z.zones.first_point_of i p;
  zone_points = λ i. z.zones.points i p;
}
