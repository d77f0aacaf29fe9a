-- The walk over the lanes of a segment, and over all segments: it passes their checkpoints' rows and puts their features. Assumes nothing.
use mathlib.Core.Path.{◌≡◌, sym, ap, subst, ◌∙◌}
use mathlib.Core.List.{List, [], ◌∷◌, ◌++◌, map, map-append}
use Prim.Native.Nat.{ℕ, suc, pred, ◌+◌, ◌≤◌, ◌<◌, min}
use native.Mathlib.Omega.{arith}
use lib.ListN.{length, length-map}
use lib.IntN.{ℤ}
use Rattle.terms.specs.Ascii.{Bytes}
use Rattle.terms.specs.Words.{Each}
use Rattle.terms.proofs.Lists.{each-any, each_map, each_append}
use Rattle.rows.specs.declared.SegmentRow.{SegmentRow}
use Rattle.rows.specs.Read.{point_at_of, lane_at_of, segment_at_of}
use Rattle.filled_rows.specs.From.{From}
use Rattle.filled_rows.proofs.From.{from_parts}
use Rattle.law.specs.Network.{Checkpoint, Lane, Segment}
use Rattle.law.specs.Tables.{gather, total, lane_size}
use Rattle.law.specs.Along.{along}
use Rattle.grammar.specs.Tables.{CheckpointRow, checkpoint_row, lane_row, the_segment_row_of}
use Rattle.grammar.specs.Network.{GoodLane}
use Rattle.grammar.specs.HouseOrder.{GoodSegment}
use Rattle.grammar.proofs.Rows.{each-of_map}
use Rattle.table_words.specs.Shown.{shown_segment, shown_lane, shown_point}
use Rattle.features.specs.Drawn.{walk, steps, part_walk, lane_walk, segment_walk}
use Rattle.map_law.specs.Map as Map
use Rattle.map_tables.specs.Passed.{Behind, Passes}
use Rattle.map_tables.proofs.Identifiers.{gather_append}
use Rattle.map_tables.proofs.Segments.{along_append, length-along, points-counted, lane_rows_of, points-of}
use Rattle.map_tables.proofs.Checkpoints.{part-walked}
use Rattle.map_tables.proofs.Passing.{none_passed, both-passed}

-- ## Where rows stand
pub own-low : (p : ℕ) (cs : List Checkpoint) → Behind p (map (checkpoint_row p) cs)
own-low p cs = each-of_map (λ r. p ≤ r.point) (checkpoint_row p) cs (each_map (λ c. Unit {0}) (λ c. p ≤ p + pred c.waypoint) (λ c u. omega arith) cs (each-any cs))

-- the rows of things one behind the other stand behind the first's point
pub along-low : {A : Type 0} (size : A → ℕ) (f : ℕ → A → List CheckpointRow) → ((p : ℕ) (a : A) → Behind p (f p a)) → (p : ℕ) (l : List A) → Behind p (along size f p l)
along-low size f h p [] = tt
along-low size f h p (a ∷ l) =
    each_append (λ r. p ≤ r.point) (f p a) (along size f (p + size a) l) (h p a)
    (each_map (λ r. p + size a ≤ r.point) (λ r. p ≤ r.point) (λ r k. omega arith) (along size f (p + size a) l) (along-low size f h (p + size a) l))

-- ## Lanes
abbrev pub of-lanes : ℕ → List Lane → List CheckpointRow
of-lanes p ls = along lane_size (λ first a. map (checkpoint_row first) a.checkpoints) p ls

abbrev pub lane-marks : (m n : ℕ) → Lane → List Bytes
lane-marks m n a = gather (Map.checkpoint_feature m n a.points) a.checkpoints

pub lanes_low : (p : ℕ) (ls : List Lane) → Behind p (of-lanes p ls)
lanes_low p ls = along-low lane_size (λ first a. map (checkpoint_row first) a.checkpoints) (λ p a. own-low p a.checkpoints) p ls

module _ (ps : List ℤ) (cps : List ℕ) (count : ℕ) (lanes : List ℕ) where
  -- the lanes of segment m from the j-th on, whose points begin at p
  module _ (m : ℕ) (row : SegmentRow) where
    lane-passed : (j p : ℕ) (a : Lane) → j < 32768 → GoodLane a → lane_at_of lanes (row.first_lane + j) ≡ shown_lane (lane_row p a) → From (point_at_of ps) p (map shown_point a.points)
        → Passes cps count (lane_walk lanes ps cps count m row j) (p + lane_size a) (map (checkpoint_row p) a.checkpoints) (lane-marks m (suc j) a)
    unfolding lane_walk
    lane-passed j p a few good e points q next others l high =
        let number : min (0 + j + 1) 4294967295 ≡ suc j = omega arith in
        (λ i. part_walk ps cps count m (number i) (e i).first_point (e i).points (walk q next)) ∙ part-walked ps cps m (suc j) p a.points good.count.high points 1 (omega arith) count a.checkpoints good.checkpoints q next others l high

    lanes-passed : (j p : ℕ) (ls : List Lane) → j + length ls ≤ 32768 → Each GoodLane ls → From (lane_at_of lanes) (row.first_lane + j) (map shown_lane (lane_rows_of p ls)) → From (point_at_of ps) p (map shown_point (points-of ls))
        → Passes cps count (steps (lane_walk lanes ps cps count m row) j (length ls)) (p + total lane_size ls) (of-lanes p ls) (Map.numbered (suc j) (lane-marks m) ls)
    unfolding steps
    lanes-passed j p [] few good rows points = none_passed cps count (p + 0)
    lanes-passed j p (a ∷ ls) few good rows points =
        let here = from_parts (point_at_of ps) p (map shown_point a.points) (map shown_point (points-of ls)) (rw (sym (map-append shown_point a.points (points-of ls))) points) in
        let next : suc (row.first_lane + j) ≡ row.first_lane + suc j = omega arith in
        let last : suc (suc j) ≡ suc j + 1 = omega arith in
        let sum : p + lane_size a + total lane_size ls ≡ p + (lane_size a + total lane_size ls) = omega arith in
        let rest = lanes-passed (suc j) (p + lane_size a) ls (omega arith) good.1 (rw (sym next) rows.1) (rw (sym (length-map a.points shown_point)) here.1) in
        both-passed cps count (lane_walk lanes ps cps count m row j) (steps (lane_walk lanes ps cps count m row) (suc j) (length ls)) (p + lane_size a) (p + (lane_size a + total lane_size ls))
        (map (checkpoint_row p) a.checkpoints) (of-lanes (p + lane_size a) ls) (lane-marks m (suc j) a) (Map.numbered (suc j + 1) (lane-marks m) ls)
        (lane-passed j p a (omega arith) good.0 rows.0 here.0)
        (subst (λ (k : ℕ). Passes cps count (steps (lane_walk lanes ps cps count m row) (suc j) (length ls)) (p + (lane_size a + total lane_size ls)) (of-lanes (p + lane_size a) ls) (Map.numbered k (lane-marks m) ls)) last
        (subst (λ (k : ℕ). Passes cps count (steps (lane_walk lanes ps cps count m row) (suc j) (length ls)) k (of-lanes (p + lane_size a) ls) (Map.numbered (suc (suc j)) (lane-marks m) ls)) sum rest))
        (lanes_low (p + lane_size a) ls) (omega arith)

  -- ## Segments, from the k-th on, whose lanes' rows begin at `first` and whose points begin at p
  module _ {N : Type 0} (start len : N → ℕ) (segments : List ℕ) where
    abbrev pub segment-marks : ℕ → Segment N → List Bytes
    segment-marks m s = Map.numbered 1 (lane-marks m) s.lanes

    abbrev lanes_of : List (Segment N) → List Lane
    lanes_of ss = gather (λ s. s.lanes) ss

    segment-passed : (k first p : ℕ) (s : Segment N) → k < 32768 → GoodSegment s → segment_at_of segments k ≡ shown_segment start len (the_segment_row_of first s)
        → From (lane_at_of lanes) first (map shown_lane (lane_rows_of p s.lanes)) → From (point_at_of ps) p (map shown_point (points-of s.lanes))
        → Passes cps count (segment_walk segments lanes ps cps count k) (p + total lane_size s.lanes) (of-lanes p s.lanes) (segment-marks (suc k) s)
    unfolding segment_walk
    segment-passed k first p s few good e lane-side point-side q next others l high =
        let number : min (0 + k + 1) 4294967295 ≡ suc k = omega arith in
        let zero-on : first + 0 ≡ first = omega arith in
        let many = good.count.high in
        (λ i. steps (lane_walk lanes ps cps count (number i) (e i)) 0 (e i).lanes (walk q next))
        ∙ lanes-passed (suc k) (shown_segment start len (the_segment_row_of first s)) 0 p s.lanes (omega arith) good.lanes (rw zero-on lane-side) point-side q next others l high

    pub segments-passed : (k first p : ℕ) (ss : List (Segment N)) → k + length ss ≤ 32768 → Each GoodSegment ss
        → From (segment_at_of segments) k (map (shown_segment start len) (along (λ s. length s.lanes) (λ f s. the_segment_row_of f s ∷ []) first ss))
        → From (lane_at_of lanes) first (map shown_lane (lane_rows_of p (lanes_of ss)))
        → From (point_at_of ps) p (map shown_point (points-of (lanes_of ss)))
        → Passes cps count (steps (segment_walk segments lanes ps cps count) k (length ss)) (p + total lane_size (lanes_of ss)) (of-lanes p (lanes_of ss)) (Map.numbered (suc k) segment-marks ss)
    unfolding steps
    segments-passed k first p [] few good rows lane-side point-side = none_passed cps count (p + 0)
    segments-passed k first p (s ∷ ss) few good rows lane-side point-side =
        let own = s.lanes in
        let others = lanes_of ss in
        let l = from_parts (lane_at_of lanes) first (map shown_lane (lane_rows_of p own)) (map shown_lane (lane_rows_of (p + total lane_size own) others)) (rw (sym (ap (map shown_lane) (along_append lane_size (λ f a. lane_row f a ∷ []) p own others) ∙ map-append shown_lane (lane_rows_of p own) (lane_rows_of (p + total lane_size own) others))) lane-side) in
        let q = from_parts (point_at_of ps) p (map shown_point (points-of own)) (map shown_point (points-of others)) (rw (sym (ap (map shown_point) (gather_append (λ a. a.points) own others) ∙ map-append shown_point (points-of own) (points-of others))) point-side) in
        let many : length (map shown_lane (lane_rows_of p own)) ≡ length own = length-map (lane_rows_of p own) shown_lane ∙ length-along lane_size lane_row p own in
        let long : length (map shown_point (points-of own)) ≡ total lane_size own = length-map (points-of own) shown_point ∙ points-counted own in
        let last : suc (suc k) ≡ suc k + 1 = omega arith in
        let sum : p + total lane_size own + total lane_size others ≡ p + total lane_size (own ++ others) = (let t = total-append own others in omega arith) in
        let walk-rest = steps (segment_walk segments lanes ps cps count) (suc k) (length ss) in
        let rest = segments-passed (suc k) (first + length own) (p + total lane_size own) ss (omega arith) good.1 rows.1 (rw (sym many) l.1) (rw (sym long) q.1) in
        let rest' = subst (λ (j : ℕ). Passes cps count walk-rest (p + total lane_size (own ++ others)) (of-lanes (p + total lane_size own) others) (Map.numbered j segment-marks ss)) last
        (subst (λ (j : ℕ). Passes cps count walk-rest j (of-lanes (p + total lane_size own) others) (Map.numbered (suc (suc k)) segment-marks ss)) sum rest) in
        subst (λ (r : List CheckpointRow). Passes cps count (λ w. walk-rest (segment_walk segments lanes ps cps count k w)) (p + total lane_size (own ++ others)) r (segment-marks (suc k) s ++ Map.numbered (suc k + 1) segment-marks ss))
        (sym (along_append lane_size (λ first a. map (checkpoint_row first) a.checkpoints) p own others))
        (both-passed cps count (segment_walk segments lanes ps cps count k) walk-rest (p + total lane_size own) (p + total lane_size (own ++ others)) (of-lanes p own) (of-lanes (p + total lane_size own) others)
        (segment-marks (suc k) s) (Map.numbered (suc k + 1) segment-marks ss)
        (segment-passed k first p s (omega arith) good.0 rows.0 l.0 q.0) rest' (lanes_low (p + total lane_size own) others) (let t = total-append own others in omega arith))
      where
        total-append : (x y : List Lane) → total lane_size (x ++ y) ≡ total lane_size x + total lane_size y
        total-append [] y = omega arith
        total-append (a ∷ x) y = let e = total-append x y in omega arith
