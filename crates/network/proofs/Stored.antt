-- What the walk stores, statement by statement, is what `fill` gives, as `progress` shows it. For any statements, from any state. Assumes nothing.
use Rattle.std.specs.Prelude.{Option}
use mathlib.Core.Path.{◌≡◌, refl, sym, ap, ap₂, ◌∙◌}
use mathlib.Core.List.{List, [], ◌∷◌, ◌++◌, map, map-append}
use Prim.Native.Nat.{ℕ, ◌+◌, ◌<◌}
use native.Mathlib.Omega.{arith}
use lib.ListN.{length, length-append, length-map}
use lib.Dec.{lit<}
use Rattle.terms.specs.Words.{Each}
use Rattle.units.specs.Range.{Numbered}
use Rattle.units.specs.Made.{checkpoint_number_of}
use Rattle.units.proofs.Ranges.{checkpoint-number-is}
use Rattle.line.specs.Content.{Field}
use Rattle.grammar.specs.Language.{as_kind}
use Rattle.grammar.specs.Statements.{Kind, Says, Statement, lines, say, PointId, Position, RNDF_name_of, num_segments, num_zones, format_version_of, creation_date_of, segment, num_lanes, segment_name_of, end_segment, lane, num_waypoints, lane_width_of, left_boundary_of, right_boundary_of, checkpoint, stop, exit, end_lane_of, zone, num_spots, zone_name_of, end_zone, perimeter, num_perimeterpoints, end_perimeter, spot, spot_width_of, end_spot, end_file_of, point}
use Rattle.grammar.specs.Renamed.{says_named, statement_named}
use Rattle.grammar.specs.Tables as T
use Rattle.grammar.proofs.Rows.{each-front, each-behind}
use Rattle.fill.specs.NetworkRows.{State, Rows, in_tables, ◌⊕◌, next, gives, rows, ends}
use Rattle.fill.specs.NetworkRows as NR
use Rattle.fill.specs.Filling as Filling
use Rattle.fill.specs.Counts.{Counts}
use Rattle.fill.specs.Tally.{tally, tallied}
use Rattle.fill.proofs.CountLaws.{Counted, tallied-counts, Agree, ends-agree}
use Rattle.statement.specs.Meaning.{Stretch}
use Rattle.statement.specs.Kinds.{of_kind}
use Rattle.made_out.specs.Names.{the_the_stretch_of}
use Rattle.rows.specs.declared.PointRow.{PointRow}
use Rattle.rows.specs.declared.CheckpointRow.{CheckpointRow}
use Rattle.rows.specs.declared.StopRow.{StopRow}
use Rattle.rows.specs.declared.ExitRow.{ExitRow}
use Rattle.rows.specs.Lay.{put_row_of}
use Rattle.rows.specs.Columns.{segment_words_of, lane_words_of, zone_words_of, spot_words_of, point_words_of, checkpoint_words_of, stop_words_of, exit_words_of}
use Rattle.rows.specs.Strides.{segment_stride, lane_stride, zone_stride, spot_stride, point_stride, checkpoint_stride, stop_stride, exit_stride}
use Rattle.rows.specs.Table.{put_rows}
use Rattle.rows.proofs.Tables.{put-rows_append}
use Rattle.progress.specs.declared.Progress.{Progress}
use Rattle.progress.specs.declared.Row as DR
use Rattle.progress.specs.declared.Row.TheVariants as Row
use Rattle.room.specs.Room.{fitted}
use Rattle.progress.specs.Shown.{shown, shown_row, shown_segment, shown_lane, shown_zone, shown_spot, first_after, within_after}
use Rattle.progress.proofs.Shown.{after-shown, points_kept, row-shown}
use Rattle.walk.specs.Standing.{Where, over}
use Rattle.walk.proofs.RndfWalk.{told_as}
use Rattle.network.specs.Storing.{Memory, memory, store_part, store_numbered_of, stored}
use Rattle.network.specs.Reading.{with_progress, put}
use Rattle.network.proofs.Parts.{part-is}
use Rattle.network.proofs.ExitLines.{if_there, exit-starts, exit-at, exits-at}
use Rattle.units.specs.declared.CheckpointNumber.{CheckpointNumber}

-- ## Rows as they are shown
abbrev pub shown_point : Position → PointRow
shown_point p = record { latitude = p.latitude; longitude = p.longitude }

abbrev pub shown_checkpoint : T.CheckpointRow → CheckpointRow
shown_checkpoint a = record { number = checkpoint_number_of a.number; point = fitted a.point }

-- the numbers of these checkpoints are of their kind
abbrev pub AllNumbered : List T.CheckpointRow → Type 0
AllNumbered = Each (λ a. Numbered a.number)

abbrev pub shown_stop : ℕ → StopRow
shown_stop n = record { point = fitted n }

abbrev pub exit-point : T.ExitRow PointId → ℕ
exit-point a = fitted a.point

-- rows of all tables put behind those that there are, as counted; the exits as they are
unfoldable pub rows-put : Progress → Counts → Rows Stretch → List ExitRow → Memory → Memory
rows-put p c o es m = memory p
    (put_rows segment_stride segment_words_of m.segments c.segments (map shown_segment o.segments))
    (put_rows lane_stride lane_words_of m.lanes c.lanes (map shown_lane o.lanes))
    (put_rows zone_stride zone_words_of m.zones c.zones (map shown_zone o.zones))
    (put_rows spot_stride spot_words_of m.spots c.spots (map shown_spot o.spots))
    (put_rows point_stride point_words_of m.points c.points (map shown_point o.points))
    (put_rows checkpoint_stride checkpoint_words_of m.checkpoints c.checkpoints (map shown_checkpoint o.checkpoints))
    (put_rows stop_stride stop_words_of m.stops c.stops (map shown_stop o.stops))
    (put_rows exit_stride exit_words_of m.exits c.exits es)

-- ## One row
-- the exit that a row is, if it is one, of a line that starts there
abbrev the_exit_of : ℕ → NR.Row Stretch → List ExitRow
the_exit_of start NR.nothing = []
the_exit_of start (NR.a_segment a) = []
the_exit_of start (NR.a_lane a) = []
the_exit_of start (NR.a_zone a) = []
the_exit_of start (NR.a_spot a) = []
the_exit_of start (NR.a_point a) = []
the_exit_of start (NR.a_checkpoint a) = []
the_exit_of start (NR.a_stop a) = []
the_exit_of start (NR.an_exit a) = exit-at (exit-point a) start ∷ []

row_put : (r : NR.Row Stretch) → AllNumbered (in_tables r).checkpoints → (start : ℕ) (s : State Stretch) (c : Counts) (f w : ℕ) → f + w ≡ c.points → (p : Progress) (m : Memory)
    → with_progress p (stored (shown_row start r) (with_progress (shown s c f w) m)) ≡ rows-put p c (in_tables r) (the_exit_of start r) m
unfolding stored store_numbered_of rows-put put_rows
row_put NR.nothing g start s c f w e p m = refl
row_put (NR.a_segment a) g start s c f w e p m = refl
row_put (NR.a_lane a) g start s c f w e p m = refl
row_put (NR.a_zone a) g start s c f w e p m = refl
row_put (NR.a_spot a) g start s c f w e p m = refl
row_put (NR.a_point a) g start s c f w e p m =
    let q : store_part m.points f w (shown_point a) ≡ put_row_of point_stride m.points c.points (point_words_of (shown_point a))
    = part-is m.points f w (shown_point a) ∙ ap (λ (i : ℕ). put_row_of point_stride m.points i (point_words_of (shown_point a))) e in
    λ i. memory p m.segments m.lanes m.zones m.spots (q i) m.checkpoints m.stops m.exits
row_put (NR.a_checkpoint a) g start s c f w e p m = ap (λ (read : Option CheckpointNumber). with_progress p (stored (Row.Checkpoint read (fitted a.point)) (with_progress (shown s c f w) m))) (checkpoint-number-is g.0)
row_put (NR.a_stop a) g start s c f w e p m = refl
row_put (NR.an_exit a) g start s c f w e p m = refl

one_exit_of : (start : ℕ) (r : NR.Row Stretch) → length (the_exit_of start r) ≡ length (in_tables r).exits
one_exit_of start NR.nothing = refl
one_exit_of start (NR.a_segment a) = refl
one_exit_of start (NR.a_lane a) = refl
one_exit_of start (NR.a_zone a) = refl
one_exit_of start (NR.a_spot a) = refl
one_exit_of start (NR.a_point a) = refl
one_exit_of start (NR.a_checkpoint a) = refl
one_exit_of start (NR.a_stop a) = refl
one_exit_of start (NR.an_exit a) = refl

-- ## Rows, then others
behind-others : {G R X : Type 0} (stride : ℕ) (words : R → List X) → 0 < stride → ((v : R) → length (words v) ≡ stride) → (show : G → R) (t : List X) (at at' : ℕ) (xs ys : List G) → at' ≡ at + length xs
    → put_rows stride words (put_rows stride words t at (map show xs)) at' (map show ys) ≡ put_rows stride words t at (map show (xs ++ ys))
behind-others {R = R} {X} stride words positive long show t at at' xs ys e =
    let n = length-map xs show in
    let k : at' ≡ at + length (map show xs) = omega arith in
    ap (λ (i : ℕ). put_rows stride words (put_rows stride words t at (map show xs)) i (map show ys)) k
    ∙ sym (put-rows_append stride words positive long t at (map show xs) (map show ys))
    ∙ ap (λ (l : List R). put_rows stride words t at l) (sym (map-append show xs ys))

rows-put-twice : (p q : Progress) (c d : Counts) (o u : Rows Stretch) (es fs : List ExitRow) (m : Memory) → Counted c o d → length es ≡ length o.exits
    → rows-put q d u fs (rows-put p c o es m) ≡ rows-put q c (o ⊕ u) (es ++ fs) m
unfolding rows-put
rows-put-twice p q c d o u es fs m h n =
    let a = behind-others segment_stride segment_words_of (lit< tt) (λ v. refl) shown_segment m.segments c.segments d.segments o.segments u.segments h.segments in
    let b = behind-others lane_stride lane_words_of (lit< tt) (λ v. refl) shown_lane m.lanes c.lanes d.lanes o.lanes u.lanes h.lanes in
    let z = behind-others zone_stride zone_words_of (lit< tt) (λ v. refl) shown_zone m.zones c.zones d.zones o.zones u.zones h.zones in
    let s = behind-others spot_stride spot_words_of (lit< tt) (λ v. refl) shown_spot m.spots c.spots d.spots o.spots u.spots h.spots in
    let t = behind-others point_stride point_words_of (lit< tt) (λ v. refl) shown_point m.points c.points d.points o.points u.points h.points in
    let k = behind-others checkpoint_stride checkpoint_words_of (lit< tt) (λ v. refl) shown_checkpoint m.checkpoints c.checkpoints d.checkpoints o.checkpoints u.checkpoints h.checkpoints in
    let l = behind-others stop_stride stop_words_of (lit< tt) (λ v. refl) shown_stop m.stops c.stops d.stops o.stops u.stops h.stops in
    let j = h.exits in
    let x : d.exits ≡ c.exits + length es = omega arith in
    let y = ap (λ (i : ℕ). put_rows exit_stride exit_words_of (put_rows exit_stride exit_words_of m.exits c.exits es) i fs) x ∙ sym (put-rows_append exit_stride exit_words_of (lit< tt) (λ v. refl) m.exits c.exits es fs) in
    λ i. memory q (a i) (b i) (z i) (s i) (t i) (k i) (l i) (y i)

-- ## One statement
-- the tally counts its row
counted-one : (u : Statement Stretch) (s : State Stretch) (c : Counts) → Counted c (in_tables (gives u.kind u.val s)) (tally u.kind c)
unfolding tallied Filling.rows
counted-one u s c = let h = tallied-counts (u ∷ []) s c in let o = in_tables (gives u.kind u.val s) in record {
  segments = let a = h.segments in let b = length-append o.segments [] in omega arith;
  lanes = let a = h.lanes in let b = length-append o.lanes [] in omega arith;
  zones = let a = h.zones in let b = length-append o.zones [] in omega arith;
  spots = let a = h.spots in let b = length-append o.spots [] in omega arith;
  points = let a = h.points in let b = length-append o.points [] in omega arith;
  checkpoints = let a = h.checkpoints in let b = length-append o.checkpoints [] in omega arith;
  stops = let a = h.stops in let b = length-append o.stops [] in omega arith;
  exits = let a = h.exits in let b = length-append o.exits [] in omega arith;
}

-- a state and its counts go on to agree
agree-one : (u : Statement Stretch) (s : State Stretch) (c : Counts) → Agree s c → Agree (next u.kind u.val s) (tally u.kind c)
unfolding tallied Filling.ends
agree-one u s c h = ends-agree (u ∷ []) s c h

statement-put : (place : Where) (u : Statement Stretch) (s : State Stretch) → AllNumbered (in_tables (gives u.kind u.val s)).checkpoints → (c : Counts) (f w : ℕ) → f + w ≡ s.points → Agree s c → (m : Memory)
    → put place (of_kind u.kind u.val) (with_progress (shown s c f w) m)
    ≡ rows-put (shown (next u.kind u.val s) (tally u.kind c) (first_after u.kind f w) (within_after u.kind w)) c (in_tables (gives u.kind u.val s)) (the_exit_of place.last (gives u.kind u.val s)) m
unfolding put
statement-put place u s g c f w e h m =
    let q : f + w ≡ c.points = e ∙ h.2 in
    ap₂ (λ (p : Progress) (r : DR.Row). with_progress p (stored r (with_progress (shown s c f w) m))) (after-shown u.kind u.val s c f w e h.0 h.1) (row-shown u.kind u.val s c f w place.last e)
    ∙ row_put (gives u.kind u.val s) g place.last s c f w q (shown (next u.kind u.val s) (tally u.kind c) (first_after u.kind f w) (within_after u.kind w)) m

-- ## Statements, each where it stands
-- where the points of the last part begin behind statements, and how many there are
unfoldable pub first-behind : {N : Type 0} → List (Statement N) → (f w : ℕ) → ℕ
first-behind [] f w = f
first-behind (u ∷ us) f w = first-behind us (first_after u.kind f w) (within_after u.kind w)

unfoldable pub within-behind : {N : Type 0} → List (Statement N) → (w : ℕ) → ℕ
within-behind [] w = w
within-behind (u ∷ us) w = within-behind us (within_after u.kind w)

pub points_behind : (us : List (Statement Stretch)) (s : State Stretch) (f w : ℕ) → f + w ≡ s.points → first-behind us f w + within-behind us w ≡ (ends us s).points
unfolding first-behind within-behind Filling.ends
points_behind [] s f w e = e
points_behind (u ∷ us) s f w e = points_behind us (next u.kind u.val s) (first_after u.kind f w) (within_after u.kind w) (points_kept u.kind u.val s f w e)

-- the exits among the rows
unfoldable exit_rows : List Where → List (Statement Stretch) → State Stretch → List ExitRow
exit_rows [] [] s = []
exit_rows [] (u ∷ us) s = []
exit_rows (w ∷ ws) [] s = []
exit_rows (w ∷ ws) (u ∷ us) s = the_exit_of w.last (gives u.kind u.val s) ++ exit_rows ws us (next u.kind u.val s)

abbrev pub told : List (Statement Field) → List (Statement Stretch)
told = map (statement_named the_the_stretch_of)

all_put : (ws : List Where) (ts : List (Statement Field)) → length ws ≡ length ts → (s : State Stretch) → AllNumbered (rows (told ts) s).checkpoints → (c : Counts) (f w : ℕ) → f + w ≡ s.points → Agree s c → (m : Memory)
    → over (λ w t. put w (told_as t)) ws ts (with_progress (shown s c f w) m)
    ≡ rows-put (shown (ends (told ts) s) (tallied (told ts) c) (first-behind (told ts) f w) (within-behind (told ts) w)) c (rows (told ts) s) (exit_rows ws (told ts) s) m
unfolding over rows-put put_rows first-behind within-behind exit_rows tallied Filling.rows Filling.ends
all_put [] [] n s g c f w e h m = refl
all_put [] (t ∷ ts) n s g c f w e h m = absurd (omega arith)
all_put (v ∷ ws) [] n s g c f w e h m = absurd (omega arith)
all_put (v ∷ ws) (t ∷ ts) n s g c f w e h m =
    let u : Statement Stretch = statement_named the_the_stretch_of t in
    let s' = next u.kind u.val s in
    let c' = tally u.kind c in
    let f' = first_after u.kind f w in
    let w' = within_after u.kind w in
    let r = gives u.kind u.val s in
    let p' = shown s' c' f' w' in
    let m' = rows-put p' c (in_tables r) (the_exit_of v.last r) m in
    let g₁ = each-front (λ a. Numbered a.number) (in_tables r).checkpoints (rows (told ts) s').checkpoints g in
    let g₂ = each-behind (λ a. Numbered a.number) (in_tables r).checkpoints (rows (told ts) s').checkpoints g in
    ap (λ (x : Memory). over (λ w t. put w (told_as t)) ws ts x) (statement-put v u s g₁ c f w e h m)
    ∙ all_put ws ts (omega arith) s' g₂ c' f' w' (points_kept u.kind u.val s f w e) (agree-one u s c h) m'
    ∙ rows-put-twice p' (shown (ends (told ts) s') (tallied (told ts) c') (first-behind (told ts) f' w') (within-behind (told ts) w')) c c' (in_tables r) (rows (told ts) s') (the_exit_of v.last r) (exit_rows ws (told ts) s') m (counted-one u s c) (one_exit_of v.last r)

-- ## The exits: each exit's point with the start of its entry
exit-here : (k : Kind) (v : Says Field k) (s : State Stretch) (start : ℕ) (rest : List (T.ExitRow PointId)) (starts : List ℕ)
    → exits-at (map exit-point ((in_tables (gives k (says_named the_the_stretch_of k v) s)).exits ++ rest)) (if_there (as_kind (lines Field) exit (say k v)) start ++ starts) ≡ the_exit_of start (gives k (says_named the_the_stretch_of k v) s) ++ exits-at (map exit-point rest) starts
unfolding exits-at
exit-here RNDF_name_of v s start rest starts = refl
exit-here num_segments v s start rest starts = refl
exit-here num_zones v s start rest starts = refl
exit-here format_version_of v s start rest starts = refl
exit-here creation_date_of v s start rest starts = refl
exit-here segment v s start rest starts = refl
exit-here num_lanes v s start rest starts = refl
exit-here segment_name_of v s start rest starts = refl
exit-here end_segment v s start rest starts = refl
exit-here lane v s start rest starts = refl
exit-here num_waypoints v s start rest starts = refl
exit-here lane_width_of v s start rest starts = refl
exit-here left_boundary_of v s start rest starts = refl
exit-here right_boundary_of v s start rest starts = refl
exit-here checkpoint v s start rest starts = refl
exit-here stop v s start rest starts = refl
exit-here exit v s start rest starts = refl
exit-here end_lane_of v s start rest starts = refl
exit-here zone v s start rest starts = refl
exit-here num_spots v s start rest starts = refl
exit-here zone_name_of v s start rest starts = refl
exit-here end_zone v s start rest starts = refl
exit-here perimeter v s start rest starts = refl
exit-here num_perimeterpoints v s start rest starts = refl
exit-here end_perimeter v s start rest starts = refl
exit-here spot v s start rest starts = refl
exit-here spot_width_of v s start rest starts = refl
exit-here end_spot v s start rest starts = refl
exit-here end_file_of v s start rest starts = refl
exit-here point v s start rest starts = refl

exit-rows-are : (ws : List Where) (ts : List (Statement Field)) → length ws ≡ length ts → (s : State Stretch) → exit_rows ws (told ts) s ≡ exits-at (map exit-point (rows (told ts) s).exits) (exit-starts ws ts)
unfolding exit_rows exit-starts exits-at Filling.rows
exit-rows-are [] [] n s = refl
exit-rows-are [] (t ∷ ts) n s = absurd (omega arith)
exit-rows-are (w ∷ ws) [] n s = absurd (omega arith)
exit-rows-are (w ∷ ws) (t ∷ ts) n s =
    let u : Statement Stretch = statement_named the_the_stretch_of t in
    let s' = next u.kind u.val s in
    ap (λ (es : List ExitRow). the_exit_of w.last (gives u.kind u.val s) ++ es) (exit-rows-are ws ts (omega arith) s')
    ∙ sym (exit-here t.kind t.val s w.last (rows (told ts) s').exits (exit-starts ws ts))

-- THE LAW
pub statements-put : (ws : List Where) (ts : List (Statement Field)) → length ws ≡ length ts → (s : State Stretch) → AllNumbered (rows (told ts) s).checkpoints → (c : Counts) (f w : ℕ) → f + w ≡ s.points → Agree s c → (m : Memory)
    → over (λ w t. put w (told_as t)) ws ts (with_progress (shown s c f w) m)
    ≡ rows-put (shown (ends (told ts) s) (tallied (told ts) c) (first-behind (told ts) f w) (within-behind (told ts) w)) c (rows (told ts) s) (exits-at (map exit-point (rows (told ts) s).exits) (exit-starts ws ts)) m
statements-put ws ts n s g c f w e h m =
    all_put ws ts n s g c f w e h m
    ∙ ap (λ (es : List ExitRow). rows-put (shown (ends (told ts) s) (tallied (told ts) c) (first-behind (told ts) f w) (within-behind (told ts) w)) c (rows (told ts) s) es m) (exit-rows-are ws ts n s)
