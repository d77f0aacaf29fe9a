-- The places of an RNDF read lanes and segments as the definitions say. Assumes nothing.
use mathlib.Core.Path.{◌≡◌, refl, sym, ap, ap₂, subst, ◌∙◌}
use mathlib.Core.List.{List, [], ◌∷◌, ◌++◌, map, append_assoc, tail-eq_of_cons-eq}
use mathlib.Core.Option.{Option, none, some}
use mathlib.Core.Bool.{Bool, true, false}
use Prim.Native.Nat.{ℕ, zero, suc, pred, ◌+◌, ◌*◌, ◌≤◌, ◌<◌}
use native.Mathlib.Omega.{arith}
use lib.ListN.{length}
use Rattle.terms.specs.Words.{pick, Each, Among, perhaps, Between, InTurn, nothing, then}
use Rattle.terms.proofs.Lists.{map-id, each-any}
use Rattle.grammar.specs.Forms.{eq?, Form, free}
use Rattle.grammar.specs.Statements.{Kind, Position, Boundary, Statement, lines, say, part_id, point_id, point_line_of, numbered, segment, num_lanes, end_segment, lane, num_waypoints, end_lane_of, point}
use Rattle.grammar.specs.Network.{Under, largest, Checkpoint, Exit, Lane, Segment, OnEarth, GoodLane, LaneOptions, SpellsLane, SegmentOptions, SpellsSegment}
use Rattle.grammar.specs.Permitted.{part?, counted, the_number_of, the_part_of, the_point_of, lane_row, segment_row_of}
use Rattle.grammar.specs.Places.{rndf_by, Base, part_due, num_lanes_due, first_lane_due, lane_due, num_waypoints_due, first_waypoint_due, waypoint_due}
use Rattle.grammar.proofs.Options.{Holds, Given}
use Rattle.grammar.proofs.Reading.{Reads, Line, After, Seq, Many, reads-line, reads-after, reads_seq, reads_as, reads_open, reads-many}

-- with L8's rule and without, where it asks nothing
pub always : (strict : Bool) → pick strict true true ≡ true
always true = refl
always false = refl

module _ (by : Under) (N : Type 0) where
  abbrev pub Lines : Type 0
  Lines = List (Statement N)

  -- a relation is read from a base to another
  abbrev pub To : {A : Type 0} → (A → Lines → Type 0) → Base → Base → Type 1
  To Sp p q = Reads (rndf_by N by) Sp (some p) (λ x. some q)

  -- ## Points in turn are the numbered lines
  abbrev pub PointAt : (m n i : ℕ) → Position → Lines → Type 0
  PointAt m n i = Line (rndf_by N by) point (the_point_of m n i)

  pub points_in-turn : (m n i : ℕ) (ps : List Position) → Each OnEarth ps → InTurn (PointAt m n) i ps (numbered m n i ps)
  unfolding numbered
  points_in-turn m n i [] g = nothing
  points_in-turn m n i (p ∷ ps) g = then (g.0, refl) (points_in-turn m n (suc i) ps g.1)

  pub in-turn-points : (m n i : ℕ) (ps : List Position) (u : Lines) → InTurn (PointAt m n) i ps u → Each OnEarth ps × (u ≡ numbered m n i ps)
  unfolding numbered
  in-turn-points m n i [] u nothing = (tt, refl)
  in-turn-points m n i (p ∷ ps) u (then {u = v} {v = w} x t) = let y = in-turn-points m n (suc i) ps w t in ((x.0, y.0), ap₂ (λ (a b : Lines). a ++ b) x.1 y.1)

  -- ## What follows `lane m.n`
  abbrev LaneParts : (m n : ℕ) → ℕ × ((Holds (lines N) (lane_row N m n 0) × Position) × (List Position × Unit {0})) → Lines → Type 0
  LaneParts m n = Seq (rndf_by N by) (Line (rndf_by N by) num_waypoints counted) λ w. Seq (rndf_by N by) (After (rndf_by N by) (lane_row N m n w) point (the_point_of m n 1)) λ x. Many (rndf_by N by) (PointAt m n) (λ i. Line (rndf_by N by) end_lane_of (free (Unit {0}))) 2 (pred w)

  abbrev pub LaneBody : (m n : ℕ) → Lane → Lines → Type 0
  LaneBody m n a l = SpellsLane m n a (say lane (part_id m n) ∷ l)

  parts-lane : (m o z n l : ℕ) → To (LaneParts m n) (num_waypoints_due m o z n l) (lane_due m o z (suc n) l)
  parts-lane m o z n l =
      reads_seq (rndf_by N by) (reads-line (rndf_by N by) (num_waypoints_due m o z n l) counted refl (λ v. refl) (λ g. always by.strict)) λ w.
      reads_seq (rndf_by N by) (reads-after (rndf_by N by) (first_waypoint_due m o z n l w) (lane_row N m n w) (the_point_of m n 1) refl (λ v. refl) (λ g. always by.strict)) λ x.
      reads-many (rndf_by N by) (PointAt m n) (λ i. Line (rndf_by N by) end_lane_of (free (Unit {0}))) (λ i w. some (waypoint_due m o z n l i w)) (some (lane_due m o z (suc n) l))
      (λ i w. reads-line (rndf_by N by) (waypoint_due m o z n l i (suc w)) (the_point_of m n i) refl (λ v. refl) (λ g. always by.strict))
      (λ i. reads-line (rndf_by N by) (waypoint_due m o z n l i zero) (free (Unit {0})) refl (λ v. refl) (λ g. always by.strict)) 2 (pred w)

  lane_of : ℕ × ((Holds (lines N) (lane_row N 0 0 0) × Position) × (List Position × Unit {0})) → Lane
  lane_of x = let h = x.1.0.0 in record { width = h.0; left = h.1.0; right = h.1.1.0; checkpoints = h.1.1.1.0; stops = h.1.1.1.1.0; exits = h.1.1.1.1.1.0; points = x.1.0.1 ∷ x.1.1.0 }

  -- the options of a lane are those of the row
  abbrev pub held : Lane → Holds (lines N) (lane_row N 0 0 0)
  held a = (a.width, (a.left, (a.right, (a.checkpoints, (a.stops, (a.exits, tt))))))

  lane-given : (m n : ℕ) (a : Lane) (os : Lines) → LaneOptions m n a os → GoodLane a → Given (lines N) (lane_row N m n (length a.points)) (held a) os
  lane-given m n a os o g = (
    (
      o.width ∙ sym (map-id (perhaps a.width)),
      g.width,
      (
        o.left ∙ sym (map-id (perhaps a.left)),
        each-any (perhaps a.left),
        (
          o.right ∙ sym (map-id (perhaps a.right)),
          each-any (perhaps a.right),
          (o.checkpoints, g.checkpoints, (o.stops, g.stops, (o.exits, g.exits, tt))),
        ),
      ),
    ),
    o.no_other,
  )

  pub given-lane : (m n : ℕ) (a : Lane) (os : Lines) → Given (lines N) (lane_row N m n (length a.points)) (held a) os → Between 1 largest (length a.points) → Each OnEarth a.points → LaneOptions m n a os × GoodLane a
  given-lane m n a os g c p =
      let h = g.0 in (
        record { width = h.0 ∙ map-id (perhaps a.width); left = h.2.0 ∙ map-id (perhaps a.left); right = h.2.2.0 ∙ map-id (perhaps a.right); checkpoints = h.2.2.2.0; stops = h.2.2.2.2.0; exits = h.2.2.2.2.2.0; no_other = g.1 },
        record { count = c; points = p; width = h.1; checkpoints = h.2.2.2.1; stops = h.2.2.2.2.1; exits = h.2.2.2.2.2.1 },
      )

  abbrev with : Lane → List Position → Lane
  with a ps = record { width = a.width; left = a.left; right = a.right; checkpoints = a.checkpoints; stops = a.stops; exits = a.exits; points = ps }

  to-lane : (m n : ℕ) (a : Lane) (ps : List Position) (l : Lines) → LaneBody m n (with a ps) l → (x : ℕ × ((Holds (lines N) (lane_row N m n 0) × Position) × (List Position × Unit {0}))) × (lane_of x ≡ with a ps) × LaneParts m n x l
  unfolding lane_of numbered
  to-lane m n a [] l s = absurd (omega arith)
  to-lane m n a (p ∷ ps) l s =
      let os = s.options in
      let rest = numbered m n 2 ps ++ (say end_lane_of tt ∷ []) in (
        (suc (length ps), ((held a, p), (ps, tt))),
        refl,
        (
          say num_waypoints (suc (length ps)) ∷ [],
          os ++ (point_line_of (point_id m n 1) p ∷ rest),
          (s.good.count, refl),
          (
            os ++ (point_line_of (point_id m n 1) p ∷ []),
            rest,
            (os, lane-given m n (with a (p ∷ ps)) os s.given s.good, s.good.points.0, refl),
            (numbered m n 2 ps, say end_lane_of tt ∷ [], refl, points_in-turn m n 2 ps s.good.points.1, (tt, refl), refl),
            sym (append_assoc os (point_line_of (point_id m n 1) p ∷ []) rest),
          ),
          tail-eq_of_cons-eq s.spelled,
        ),
      )

  from-lane : (m n : ℕ) (x : ℕ × ((Holds (lines N) (lane_row N m n 0) × Position) × (List Position × Unit {0}))) (l : Lines) → LaneParts m n x l → LaneBody m n (lane_of x) l
  unfolding lane_of numbered
  from-lane m n x l y =
      let p = x.1.0.1 in
      let ps = x.1.1.0 in
      let b = y.3 in
      let o = b.2 in
      let e = b.3 in
      let t = in-turn-points m n 2 ps e.0 e.3 in
      let len = e.2 in
      let c = y.2.0 in
      let w : x.0 ≡ suc (length ps) = omega arith in
      let g = given-lane m n (lane_of x) o.0 (rw w at o.1) (rw w at c) (o.2, t.0) in
      record { options = o.0; given = g.0; good = g.1; spelled = rw (y.4, y.2.1, b.4, o.3, e.5, t.1, e.4.1, append_assoc, w) }

  pub reads-body : (m o z n l : ℕ) → To (LaneBody m n) (num_waypoints_due m o z n l) (lane_due m o z (suc n) l)
  reads-body m o z n l = reads_as (rndf_by N by) lane_of (λ a l s. to-lane m n a a.points l s) (from-lane m n) (parts-lane m o z n l)

  pub reads-lane : (m o z n l : ℕ) → To (SpellsLane m n) (lane_due m o z n (suc l)) (lane_due m o z (suc n) l)
  reads-lane m o z n l = reads_open (rndf_by N by) (SpellsLane m n) lane part? (part_id m n) (λ a w s. (_, s.spelled)) (reads-line (rndf_by N by) (lane_due m o z n (suc l)) (the_part_of m n) refl (λ v. refl) (λ g. always by.strict)) (reads-body m o z n l)

  -- ## What follows `segment m`
  abbrev SegmentParts : (m : ℕ) → ℕ × ((Holds (lines N) (segment_row_of N) × Unit {0}) × (Lane × (List Lane × Unit {0}))) → Lines → Type 0
  SegmentParts m = Seq (rndf_by N by) (Line (rndf_by N by) num_lanes counted) λ l. Seq (rndf_by N by) (After (rndf_by N by) (segment_row_of N) lane (the_part_of m 1)) λ x. Seq (rndf_by N by) (LaneBody m 1) λ a. Many (rndf_by N by) (SpellsLane m) (λ i. Line (rndf_by N by) end_segment (free (Unit {0}))) 2 (pred l)

  abbrev pub SegmentBody : (m : ℕ) → (Segment N) → Lines → Type 0
  SegmentBody m a l = SpellsSegment m a (say segment m ∷ l)

  parts-segment : (m o z : ℕ) → To (SegmentParts m) (num_lanes_due m o z) (part_due (suc m) o z)
  parts-segment m o z =
      reads_seq (rndf_by N by) (reads-line (rndf_by N by) (num_lanes_due m o z) counted refl (λ v. refl) (λ g. always by.strict)) λ l.
      reads_seq (rndf_by N by) (reads-after (rndf_by N by) (first_lane_due m o z l) (segment_row_of N) (the_part_of m 1) refl (λ v. refl) (λ g. always by.strict)) λ x.
      reads_seq (rndf_by N by) (reads-body m o z 1 (pred l)) λ a.
      reads-many (rndf_by N by) (SpellsLane m) (λ i. Line (rndf_by N by) end_segment (free (Unit {0}))) (λ i l. some (lane_due m o z i l)) (some (part_due (suc m) o z))
      (λ i l. reads-lane m o z i l) (λ i. reads-line (rndf_by N by) (lane_due m o z i zero) (free (Unit {0})) refl (λ v. refl) (λ g. always by.strict)) 2 (pred l)

  segment_of : ℕ × ((Holds (lines N) (segment_row_of N) × Unit {0}) × (Lane × (List Lane × Unit {0}))) → (Segment N)
  segment_of x = record { name = x.1.0.0.0; lanes = x.1.1.0 ∷ x.1.1.1.0 }

  to-segment : (m : ℕ) (name : Option N) (es : List Lane) (l os ls : Lines) → SegmentOptions (record { name = name; lanes = es }) os → Between 1 largest (length es) → InTurn (SpellsLane m) 1 es ls
      → l ≡ say num_lanes (length es) ∷ os ++ (ls ++ (say end_segment tt ∷ [])) → (x : ℕ × ((Holds (lines N) (segment_row_of N) × Unit {0}) × (Lane × (List Lane × Unit {0})))) × (segment_of x ≡ record { name = name; lanes = es }) × SegmentParts m x l
  unfolding segment_of
  to-segment m name [] l os ls o c t e = absurd (omega arith)
  to-segment m name (a ∷ es) l os ls o c (then {u = u} {v = v} x t) e =
      let body = tail x in
      let rest = v ++ (say end_segment tt ∷ []) in (
        (suc (length es), (((name, tt), tt), (a, (es, tt)))),
        refl,
        (
          say num_lanes (suc (length es)) ∷ [],
          os ++ (say lane (part_id m 1) ∷ (body ++ rest)),
          (c, refl),
          (
            os ++ (say lane (part_id m 1) ∷ []),
            body ++ rest,
            (os, ((o.name ∙ sym (map-id (perhaps name)), each-any (perhaps name), tt), o.no_other), tt, refl),
            (body, rest, rw x.spelled at x, (v, say end_segment tt ∷ [], refl, t, (tt, refl), refl), refl),
            sym (append_assoc os (say lane (part_id m 1) ∷ []) (body ++ rest)),
          ),
          e ∙ rw (append_assoc u v (say end_segment tt ∷ []), x.spelled),
        ),
      )
    where
      tail : {u : Lines} → SpellsLane m 1 a u → Lines
      tail x = say num_waypoints (length a.points) ∷ x.options ++ (numbered m 1 1 a.points ++ (say end_lane_of tt ∷ []))

  from-segment : (m : ℕ) (x : ℕ × ((Holds (lines N) (segment_row_of N) × Unit {0}) × (Lane × (List Lane × Unit {0})))) (l : Lines) → SegmentParts m x l → SegmentBody m (segment_of x) l
  unfolding segment_of
  from-segment m x l y =
      let b = y.3 in
      let o = b.2 in
      let d = b.3 in
      let e = d.3 in
      let len = e.2 in
      let c = y.2.0 in
      let w : x.0 ≡ suc (length x.1.1.1.0) = omega arith in
      record {
        options = o.0;
        lanes = (say lane (part_id m 1) ∷ d.0) ++ e.0;
        given = record { name = o.1.0.0 ∙ map-id (perhaps x.1.0.0.0); no_other = o.1.1 };
        count = rw w at c;
        each = then d.2 e.3;
        spelled = rw (y.4, y.2.1, b.4, o.3, d.4, e.5, e.4.1, w) (simp append_assoc);
      }

  pub reads-segment-body : (m o z : ℕ) → To (SegmentBody m) (num_lanes_due m o z) (part_due (suc m) o z)
  reads-segment-body m o z = reads_as (rndf_by N by) segment_of (λ a l s. to-segment m a.name a.lanes l s.options s.lanes s.given s.count s.each (tail-eq_of_cons-eq s.spelled)) (from-segment m) (parts-segment m o z)

  pub reads-segment : (m o z : ℕ) → To (SpellsSegment m) (part_due m (suc o) z) (part_due (suc m) o z)
  reads-segment m o z = reads_open (rndf_by N by) (SpellsSegment m) segment eq? m (λ a w s. (_, s.spelled)) (reads-line (rndf_by N by) (part_due m (suc o) z) (the_number_of m) refl (λ v. refl) (λ g. always by.strict)) (reads-segment-body m o z)
