-- What the statements of a lane and of a segment fill. Assumes nothing.
use mathlib.Core.Path.{◌≡◌, refl, sym, ap, subst, subst₂, ◌∙◌}
use mathlib.Core.List.{List, [], ◌∷◌, ◌++◌, map, map-map, append_assoc, append-nil}
use mathlib.Core.Option.{Option, none, some}
use Prim.Native.Nat.{ℕ, suc, ◌+◌}
use native.Mathlib.Omega.{arith}
use lib.ListN.{length, length-append}
use Rattle.terms.specs.Words.{perhaps, InTurn, nothing, then}
use Rattle.grammar.specs.Statements.{Kind, Statement, lines, say, of_kind, Only, Boundary, PointId, Position, CheckpointLine, ExitLine, part_id, point_id, point_line_of, numbered, segment, num_lanes, segment_name_of, end_segment, lane, num_waypoints, lane_width_of, left_boundary_of, right_boundary_of, checkpoint, stop, exit, end_lane_of}
use Rattle.grammar.specs.Network.{Lane, Segment, LaneOptions, SpellsLane, SpellsSegment}
use Rattle.grammar.specs.Tables.{FileRow, SegmentRow, LaneRow, ZoneRow, SpotRow, CheckpointRow, ExitRow, colour, side, feet, the_row_of, the_no_lane_of, the_no_segment_of, gather, along, lane_size, lane_row, checkpoint_row, exit_row, the_segment_row_of}
use Rattle.fill.specs.NetworkRows.{State, state, Rows, no_rows, missing_width, ◌⊕◌, next, with_lane, with_segment, network_filling}
use Rattle.fill.proofs.RowLaws.{along_append, gather_append}
use Rattle.fill.proofs.Folds as Folds
use Rattle.fill.proofs.Folds.{Joins, one, as_rows}
use Rattle.fill.proofs.Lines.{own, options-by}

-- the last of a list, or d
abbrev pub last : {A : Type 0} → A → List A → A
last d [] = d
last d (v ∷ l) = last v l

pub last-feet : (w : Option ℕ) → last missing_width (perhaps w) ≡ feet w
last-feet none = refl
last-feet (some w) = refl

last-side : (b : Option Boundary) → last 0 (map colour (perhaps b)) ≡ side b
last-side none = refl
last-side (some b) = refl

pub last_name : {N : Type 0} (w : Option N) → last none (map some (perhaps w)) ≡ w
last_name none = refl
last_name (some w) = refl

-- ## The row of a line that names the z-th point of a part whose first point is row p
abbrev pub checkpoint-line-row : ℕ → CheckpointLine → CheckpointRow
checkpoint-line-row p v = record { number = v.number; point = the_row_of p v.waypoint.z }

abbrev pub exit-line-row : ℕ → ExitLine → ExitRow PointId
exit-line-row p v = record { point = the_row_of p v.waypoint.z; entry = v.entry }

abbrev pub stop-line-row : ℕ → PointId → ℕ
stop-line-row p v = the_row_of p v.z

abbrev lane-kinds : List Kind
lane-kinds = lane_width_of ∷ left_boundary_of ∷ right_boundary_of ∷ checkpoint ∷ stop ∷ exit ∷ []

-- a lane's row behind its options
abbrev lane-after : List ℕ → List Boundary → List Boundary → LaneRow → LaneRow
lane-after ws ls rs a = record { first_point_of = a.first_point_of; points = a.points; width = last a.width ws; left = last a.left (map colour ls); right = last a.right (map colour rs) }

abbrev opened : (p w : ℕ) → LaneRow
opened p w = record { first_point_of = p; points = w; width = missing_width; left = 0; right = 0 }

module _ {N : Type 0} where
  pub joined : Joins (network_filling {N = N})
  joined = record {
    assoc = λ a b c. λ i. record {
      segments = append_assoc a.segments b.segments c.segments i;
      lanes = append_assoc a.lanes b.lanes c.lanes i;
      zones = append_assoc a.zones b.zones c.zones i;
      spots = append_assoc a.spots b.spots c.spots i;
      points = append_assoc a.points b.points c.points i;
      checkpoints = append_assoc a.checkpoints b.checkpoints c.checkpoints i;
      stops = append_assoc a.stops b.stops c.stops i;
      exits = append_assoc a.exits b.exits c.exits i;
    };
    empty = λ a. refl;
  }

  abbrev pub Fills : List (Statement N) → State N → Rows N → State N → Type 0
  Fills = Folds.Fills network_filling

  pub done : (s : State N) → Fills [] s no_rows s
  done s = Folds.none s

  infixl 6 ◌▸◌
  pub ◌▸◌ : {u v : List (Statement N)} {s t w : State N} {o p : Rows N} → Fills u s o t → Fills v t p w → Fills (u ++ v) s (o ⊕ p) w
  f ▸ g = Folds.both joined f g

  -- ## Lanes
  abbrev pub lane-gives : List Position → List LaneRow → List CheckpointRow → List ℕ → List (ExitRow PointId) → Rows N
  lane-gives ps l cs ss es = record { segments = []; lanes = l; zones = []; spots = []; points = ps; checkpoints = cs; stops = ss; exits = es }

  abbrev Opted : State N → List (Statement N) → List ℕ → List Boundary → List Boundary → List CheckpointLine → List PointId → List ExitLine → Type 0
  Opted s os ws ls rs cs ss es = Fills os s (lane-gives [] [] (map (checkpoint-line-row s.points) cs) (map (stop-line-row s.points) ss) (map (exit-line-row s.points) es)) (with_lane (lane-after ws ls rs s.lane) s)

  lane_options : (os : List (Statement N)) → Only lane-kinds os → (s : State N)
      → Opted s os (of_kind lane_width_of os) (of_kind left_boundary_of os) (of_kind right_boundary_of os) (of_kind checkpoint os) (of_kind stop os) (of_kind exit os)
  lane_options = options-by (lines N) (λ os. (s : State N) → Opted s os (of_kind lane_width_of os) (of_kind left_boundary_of os) (of_kind right_boundary_of os) (of_kind checkpoint os) (of_kind stop os) (of_kind exit os)) lane-kinds done (
    λ v os h s. one (say lane_width_of v) (h (next lane_width_of v s)),
    (
      λ v os h s. one (say left_boundary_of v) (h (next left_boundary_of v s)),
      (
        λ v os h s. one (say right_boundary_of v) (h (next right_boundary_of v s)),
        (
          λ v os h s. one (say checkpoint v) (h s),
          (
            λ v os h s. one (say stop v) (h s),
            (
              λ v os h s. one (say exit v) (h s),
              tt,
            ),
          ),
        ),
      ),
    ),
  )

  -- the options of lane a
  abbrev options_give : ℕ → Lane → Rows N
  options_give p a = lane-gives [] [] (map (checkpoint_row p) a.checkpoints) (map (the_row_of p) a.stops) (map (exit_row (λ e. e) p) a.exits)

  given-lane : (m n : ℕ) (a : Lane) (os : List (Statement N)) → LaneOptions m n a os → (l k p : ℕ) (f : FileRow N) (sg : SegmentRow N) (zn : ZoneRow N) (sp : SpotRow)
      → Fills os (state l k p f sg (opened p (length a.points)) zn sp) (options_give p a) (state l k p f sg (lane_row p a) zn sp)
  given-lane m n a os g l k p f sg zn sp =
      let o = lane_options os g.no_other (state l k p f sg (opened p (length a.points)) zn sp) in
      let o₁ = rw (g.width, g.left, g.right, g.checkpoints, g.stops, g.exits) at o in
      rw (← last-feet a.width, ← last-side a.left, ← last-side a.right) (as_rows o₁ (simp map-map))

  -- the same state, p points so far
  abbrev pub pointed : ℕ → State N → State N
  pointed p s = state s.lanes s.spots p s.file s.segment s.lane s.zone s.spot

  pub points-fill : (m n i : ℕ) (ps : List Position) (s : State N) → Fills (numbered m n i ps) s (lane-gives ps [] [] [] []) (pointed (s.points + length ps) s)
  unfolding numbered
  points-fill m n i [] s = subst (λ (q : ℕ). Fills [] s no_rows (pointed q s)) (omega arith) (done s)
  points-fill m n i (p ∷ ps) s =
      let f = one (point_line_of (point_id m n i) p) (points-fill m n (suc i) ps (pointed (suc s.points) s)) in
      subst (λ (q : ℕ). Fills (numbered m n i (p ∷ ps)) s (lane-gives (p ∷ ps) [] [] [] []) (pointed q s)) (omega arith) f

  -- what a lane gives whose first point is row p
  abbrev of-lane : ℕ → Lane → Rows N
  of-lane p a = lane-gives a.points (lane_row p a ∷ []) (map (checkpoint_row p) a.checkpoints) (map (the_row_of p) a.stops) (map (exit_row (λ e. e) p) a.exits)

  lane_fills : (m n : ℕ) (a : Lane) (u : List (Statement N)) → SpellsLane m n a u → (l k p : ℕ) (f : FileRow N) (sg : SegmentRow N) (ln : LaneRow) (zn : ZoneRow N) (sp : SpotRow)
      → Fills u (state l k p f sg ln zn sp) (of-lane p a) (state (suc l) k (p + lane_size a) f sg the_no_lane_of zn sp)
  lane_fills m n a u s l k p f sg ln zn sp =
      let o = given-lane m n a s.options s.given l k p f sg zn sp in
      let g = points-fill m n 1 a.points (state l k p f sg (lane_row p a) zn sp) in
      let h = done (state (suc l) k (p + lane_size a) f sg the_no_lane_of zn sp) in
      rw s.spelled (as_rows (one (say lane (part_id m n)) (one (say num_waypoints (length a.points)) (o ▸ (g ▸ one (say end_lane_of tt) h))))
      (λ i. lane-gives (append-nil a.points i) (lane_row p a ∷ []) (append-nil (map (checkpoint_row p) a.checkpoints) i) (append-nil (map (the_row_of p) a.stops) i) (append-nil (map (exit_row (λ e. e) p) a.exits) i)))

  -- lanes one behind the other
  abbrev of-lanes : ℕ → List Lane → Rows N
  of-lanes p xs = lane-gives (gather (λ a. a.points) xs) (along lane_size (λ first a. lane_row first a ∷ []) p xs) (along lane_size (λ first a. map (checkpoint_row first) a.checkpoints) p xs)
      (along lane_size (λ first a. map (the_row_of first) a.stops) p xs) (along lane_size (λ first a. map (exit_row (λ e. e) first) a.exits) p xs)

  lanes-fill : (m i : ℕ) (xs : List Lane) (w : List (Statement N)) → InTurn (SpellsLane m) i xs w → (l k p : ℕ) (f : FileRow N) (sg : SegmentRow N) (zn : ZoneRow N) (sp : SpotRow)
      → Fills w (state l k p f sg the_no_lane_of zn sp) (of-lanes p xs) (state (l + length xs) k (p + length (gather (λ a. a.points) xs)) f sg the_no_lane_of zn sp)
  lanes-fill m i [] w nothing l k p f sg zn sp =
      subst₂ (λ (x y : ℕ). Fills [] (state l k p f sg the_no_lane_of zn sp) no_rows (state x k y f sg the_no_lane_of zn sp)) (let e : l ≡ l + 0 = omega arith in e) (let e : p ≡ p + 0 = omega arith in e) (done (state l k p f sg the_no_lane_of zn sp))
  lanes-fill m i (a ∷ xs) w (then {u = u} {v = v} s t) l k p f sg zn sp =
      let o = lane_fills m i a u s l k p f sg the_no_lane_of zn sp in
      let g = lanes-fill m (suc i) xs v t (suc l) k (p + lane_size a) f sg zn sp in
      let e : suc l + length xs ≡ l + length (a ∷ xs) = omega arith in
      let q = length-append a.points (gather (λ a. a.points) xs) in
      let d : (p + lane_size a) + length (gather (λ a. a.points) xs) ≡ p + length (gather (λ a. a.points) (a ∷ xs)) = omega arith in
      subst₂ (λ (x y : ℕ). Fills (u ++ v) (state l k p f sg the_no_lane_of zn sp) (of-lanes p (a ∷ xs)) (state x k y f sg the_no_lane_of zn sp)) e d (o ▸ g)

  -- ## Segments
  abbrev SegmentNamed : State N → List (Statement N) → List N → Type 0
  SegmentNamed s os ns = Fills os s no_rows (with_segment (record { first_lane = s.segment.first_lane; lanes = s.segment.lanes; name = last s.segment.name (map some ns) }) s)

  segment_options : (os : List (Statement N)) → Only (segment_name_of ∷ []) os → (s : State N) → SegmentNamed s os (of_kind segment_name_of os)
  segment_options = options-by (lines N) (λ os. (s : State N) → SegmentNamed s os (of_kind segment_name_of os)) (segment_name_of ∷ []) done
      (λ v os h s. subst (SegmentNamed s (say segment_name_of v ∷ os)) (sym (own (lines N) segment_name_of v os)) (one (say segment_name_of v) (h (next segment_name_of v s))), tt)

  -- the rows of a segment
  abbrev seg-gives : List (SegmentRow N) → Rows N → Rows N
  seg-gives ss o = record { segments = ss; lanes = o.lanes; zones = o.zones; spots = o.spots; points = o.points; checkpoints = o.checkpoints; stops = o.stops; exits = o.exits }

  segment_fills : (m : ℕ) (a : Segment N) (u : List (Statement N)) → SpellsSegment m a u → (l k p : ℕ) (f : FileRow N) (sg : SegmentRow N) (zn : ZoneRow N) (sp : SpotRow)
      → Fills u (state l k p f sg the_no_lane_of zn sp) (seg-gives (the_segment_row_of l a ∷ []) (of-lanes p a.lanes)) (state (l + length a.lanes) k (p + length (gather (λ a. a.points) a.lanes)) f the_no_segment_of the_no_lane_of zn sp)
  segment_fills m a u s l k p f sg zn sp =
      let row : Option N → SegmentRow N = λ n. record { first_lane = l; lanes = length a.lanes; name = n } in
      let o = segment_options s.options s.given.no_other (state l k p f (row none) the_no_lane_of zn sp) in
      let o₁ : Fills s.options (state l k p f (row none) the_no_lane_of zn sp) no_rows (state l k p f (row a.name) the_no_lane_of zn sp)
      = subst (λ (n : Option N). Fills s.options (state l k p f (row none) the_no_lane_of zn sp) no_rows (state l k p f (row n) the_no_lane_of zn sp)) (ap (λ (ns : List N). last none (map some ns)) s.given.name ∙ last_name a.name) o in
      let g = lanes-fill m 1 a.lanes s.lanes s.each l k p f (row a.name) zn sp in
      let h = done (state (l + length a.lanes) k (p + length (gather (λ a. a.points) a.lanes)) f the_no_segment_of the_no_lane_of zn sp) in
      let r = of-lanes p a.lanes in
      rw s.spelled (as_rows (one (say segment m) (one (say num_lanes (length a.lanes)) (o₁ ▸ (g ▸ one (say end_segment tt) h))))
      (λ i. seg-gives (row a.name ∷ []) (lane-gives (append-nil r.points i) (append-nil r.lanes i) (append-nil r.checkpoints i) (append-nil r.stops i) (append-nil r.exits i))))

  -- segments one behind the other
  abbrev pub lanes_of : List (Segment N) → List Lane
  lanes_of = gather (λ s. s.lanes)

  abbrev pub of-segments : ℕ → ℕ → List (Segment N) → Rows N
  of-segments l p xs = seg-gives (along (λ s. length s.lanes) (λ first s. the_segment_row_of first s ∷ []) l xs) (of-lanes p (lanes_of xs))

  lanes_append : (p : ℕ) (x y : List Lane) → of-lanes p x ⊕ of-lanes (p + length (gather (λ a. a.points) x)) y ≡ of-lanes p (x ++ y)
  lanes_append p x y = λ i. lane-gives (sym (gather_append (λ a. a.points) x y) i) (sym (along_append (λ a. a.points) (λ first a. lane_row first a ∷ []) p x y) i)
      (sym (along_append (λ a. a.points) (λ first a. map (checkpoint_row first) a.checkpoints) p x y) i) (sym (along_append (λ a. a.points) (λ first a. map (the_row_of first) a.stops) p x y) i)
      (sym (along_append (λ a. a.points) (λ first a. map (exit_row (λ e. e) first) a.exits) p x y) i)

  pub segments-fill : (i : ℕ) (xs : List (Segment N)) (w : List (Statement N)) → InTurn SpellsSegment i xs w → (l k p : ℕ) (f : FileRow N) (zn : ZoneRow N) (sp : SpotRow)
      → Fills w (state l k p f the_no_segment_of the_no_lane_of zn sp) (of-segments l p xs) (state (l + length (lanes_of xs)) k (p + length (gather (λ a. a.points) (lanes_of xs))) f the_no_segment_of the_no_lane_of zn sp)
  segments-fill i [] w nothing l k p f zn sp =
      subst₂ (λ (x y : ℕ). Fills [] (state l k p f the_no_segment_of the_no_lane_of zn sp) no_rows (state x k y f the_no_segment_of the_no_lane_of zn sp)) (let e : l ≡ l + 0 = omega arith in e) (let e : p ≡ p + 0 = omega arith in e) (done (state l k p f the_no_segment_of the_no_lane_of zn sp))
  segments-fill i (a ∷ xs) w (then {u = u} {v = v} s t) l k p f zn sp =
      let P : List Lane → List Position = gather (λ a. a.points) in
      let o = segment_fills i a u s l k p f the_no_segment_of zn sp in
      let g = segments-fill (suc i) xs v t (l + length a.lanes) k (p + length (P a.lanes)) f zn sp in
      let q = length-append a.lanes (lanes_of xs) in
      let e : (l + length a.lanes) + length (lanes_of xs) ≡ l + length (lanes_of (a ∷ xs)) = omega arith in
      let q₁ = length-append (P a.lanes) (P (lanes_of xs)) in
      let q₂ = ap (λ (x : List Position). length x) (gather_append (λ a. a.points) a.lanes (lanes_of xs)) in
      let d : (p + length (P a.lanes)) + length (P (lanes_of xs)) ≡ p + length (P (lanes_of (a ∷ xs))) = omega arith in
      subst₂ (λ (x y : ℕ). Fills (u ++ v) (state l k p f the_no_segment_of the_no_lane_of zn sp) (of-segments l p (a ∷ xs)) (state x k y f the_no_segment_of the_no_lane_of zn sp)) e d
      (as_rows (o ▸ g) (ap (seg-gives (along (λ s. length s.lanes) (λ first s. the_segment_row_of first s ∷ []) l (a ∷ xs))) (lanes_append p a.lanes (lanes_of xs))))
