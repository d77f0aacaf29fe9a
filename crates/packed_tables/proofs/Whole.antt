-- A whole form, record by record: the test of 29 as code makes it, and that it says what the law says. Assumes nothing.
use mathlib.Core.Path.{◌≡◌, refl, sym, ap, ap₂, subst, ◌∙◌}
use mathlib.Core.List.{List, [], ◌∷◌, ◌++◌, map, append_assoc, append-nil}
use mathlib.Core.Option.{Option, none, some}
use mathlib.Core.Bool.{Bool, true, false, ◌&&◌}
use Prim.Native.Nat.{ℕ, zero, suc, ◌+◌, ◌≤◌, ◌<◌}
use native.Mathlib.Omega.{arith}
use lib.ListN.{length, take, drop, get_or, length-map}
use Rattle.terms.specs.Ascii.{Bytes}
use Rattle.terms.specs.Words.{Each, pick}
use Rattle.line.specs.Content.{Field}
use Rattle.law.specs.Network.{Network}
use Rattle.law.specs.Tables.{gather}
use Rattle.grammar.specs.Tables.{SegmentRow, LaneRow, ZoneRow, SpotRow, CheckpointRow, ExitRow, FileRow, Tables, tables}
use Rattle.grammar.proofs.Rows.{each-front, each-behind, each-of_map}
use lib.Seq.{drop_at}
use Rattle.output.specs.Packed.{big_endian}
use Rattle.output.proofs.Packed.{packed-long}
use Rattle.replies.specs.Replies.{longest}
use Rattle.packed_law.specs.Packed.{this_version, Slot, figure, angle, title, laid, with_length, NamesLie}
use Rattle.unpackings.specs.Unpacks.{IsPackedFormOf}
use Rattle.unpackings.proofs.Framing.{gather_append}
use Rattle.unpackings.proofs.Cutting.{Kind, of_size, of-coordinate, of-name, shape, Fit, placed-cut}
use Rattle.unpackings.proofs.Rows.{segment_rec, lane_rec, zone_rec, spot_rec, point_rec, checkpoint_rec, stop_rec, exit_rec, file_rec, at, segment-back, lane-back, zone-back, spot_back, point-back, checkpoint-back, exit-back}
use Rattle.unpackings.proofs.OneNetwork.{laid_out, rest_of, items_of, laid_append, Told, told}
use Rattle.packed_tables.proofs.Reading.{read, form_of}
use Rattle.row_network.specs.Consistent.{Consistent}
use Rattle.packed_tables.proofs.Names.{TableNames}
use Rattle.packed_tables.proofs.Forms.{IsForm, table-dateless}
use Rattle.packed_tables.proofs.Records.{Small, small_drop, both_true, true-both, sizes, here, whole-size, all_here, after, place_after, records-read, RecordBack, record-back, RecordsBack, records-back, placed-both, RecordThere, record-there, RecordsThere, records-there}

-- ## Tables one behind the other: so many records, of these fields
abbrev pub Tab : Type 0
Tab = ℕ × List Kind

unfoldable pub tabs-here : List Tab → Bytes → Bool
tabs-here [] [] = true
tabs-here [] (b ∷ l) = false
tabs-here (t ∷ ts) b = all_here t.0 t.1 b && tabs-here ts (after t.0 t.1 b)

unfoldable pub tabs-read : ℕ → List Tab → Bytes → List (List (List Slot))
tabs-read place [] b = []
tabs-read place (t ∷ ts) b = records-read place t.0 t.1 b ∷ tabs-read (place_after place t.0 t.1 b) ts (after t.0 t.1 b)

abbrev pub all-items : List (List (List Slot)) → List Slot
all-items l = gather (λ rs. gather with_length rs) l

small-after : (k : ℕ) (ks : List Kind) (b : Bytes) → Small b → Small (after k ks b)
unfolding after
small-after zero ks b s = s
small-after (suc k) ks b s = small-after k ks (drop (whole-size ks b) b) (small_drop (whole-size ks b) b s)

tabs-back : (place : ℕ) (ts : List Tab) (b : Bytes) → Small b → tabs-here ts b ≡ true → (laid (all-items (tabs-read place ts b)) ≡ b) × NamesLie place (all-items (tabs-read place ts b))
unfolding laid NamesLie tabs-here tabs-read
tabs-back place [] [] s h = (refl, tt)
tabs-back place [] (b ∷ l) s h = absurd (subst (λ (x : Bool). pick x ⊥ (Unit {0})) h tt)
tabs-back place (t ∷ ts) b s h =
    let u = both_true (all_here t.0 t.1 b) (tabs-here ts (after t.0 t.1 b)) h in
    let one = records-back place t.0 t.1 b s u.0 in
    let more = tabs-back (place_after place t.0 t.1 b) ts (after t.0 t.1 b) (small-after t.0 t.1 b s) u.1 in
    let x = gather with_length (records-read place t.0 t.1 b) in
    let y = all-items (tabs-read (place_after place t.0 t.1 b) ts (after t.0 t.1 b)) in
    (laid_append x y ∙ ap (◌++◌ (laid x)) more.0 ∙ one.whole, placed-both place x y one.placed (subst (λ (k : ℕ). NamesLie k y) (sym one.ends) more.1))

-- what each table has: its fields, and its records
abbrev Had : Type 0
Had = List Kind × List (List Slot)

abbrev tab-of : Had → Tab
tab-of t = (length t.1, t.0)

tabs-there : (place : ℕ) (l : List Had) → Each (λ t. Each (λ r. map shape r ≡ t.0) t.1) l → Each Fit (all-items (map (λ t. t.1) l)) → NamesLie place (all-items (map (λ t. t.1) l))
    → (tabs-here (map tab-of l) (laid (all-items (map (λ t. t.1) l))) ≡ true) × (tabs-read place (map tab-of l) (laid (all-items (map (λ t. t.1) l))) ≡ map (λ t. t.1) l)
unfolding laid NamesLie tabs-here tabs-read
tabs-there place [] h f p = (refl, refl)
tabs-there place (t ∷ l) h f p =
    let x = gather with_length t.1 in
    let y = all-items (map (λ (t : Had). t.1) l) in
    let cut = placed-cut place x y p in
    let one = records-there place t.0 t.1 (laid y) h.0 (each-front Fit x y f) cut.0 in
    let more = tabs-there (place + length (laid x)) l h.1 (each-behind Fit x y f) cut.1 in
    let b = laid x ++ laid y in
    let go : (tabs-here (map tab-of (t ∷ l)) b ≡ true) × (tabs-read place (map tab-of (t ∷ l)) b ≡ map (λ t. t.1) (t ∷ l)) = (
      true-both (all_here (length t.1) t.0 b) (tabs-here (map tab-of l) (after (length t.1) t.0 b)) one.here_so (ap (tabs-here (map tab-of l)) one.left ∙ more.0),
      ap₂ (λ (u : List (List Slot)) (v : List (List (List Slot))). u ∷ v) one.are (ap₂ (λ (k : ℕ) (c : Bytes). tabs-read k (map tab-of l) c) one.ends one.left ∙ more.1),
    ) in
    subst (λ (c : Bytes). (tabs-here (map tab-of (t ∷ l)) c ≡ true) × (tabs-read place (map tab-of (t ∷ l)) c ≡ map (λ t. t.1) (t ∷ l))) (sym (laid_append x y)) go

-- ## Rows from records, and records from rows
module _ {R : Type 0} (ks : List Kind) (rec : R → List Slot) (back : List Slot → R) where
  recs_back : ((place : ℕ) (b : Bytes) → rec (back (read place ks b)) ≡ read place ks b) → (place k : ℕ) (b : Bytes) → map rec (map back (records-read place k ks b)) ≡ records-read place k ks b
  unfolding records-read
  recs_back e place zero b = refl
  recs_back e place (suc k) b = ap₂ (λ (x : List Slot) (y : List (List Slot)). x ∷ y) (e (place + 2) (drop 2 b)) (recs_back e (place + whole-size ks b) k (drop (whole-size ks b) b))

  rows_back : ((r : R) → back (rec r) ≡ r) → (rows : List R) → map back (map rec rows) ≡ rows
  rows_back e [] = refl
  rows_back e (r ∷ rows) = ap₂ (λ (x : R) (y : List R). x ∷ y) (e r) (rows_back e rows)

  shaped : ((r : R) → map shape (rec r) ≡ ks) → (rows : List R) → Each (λ r. map shape r ≡ ks) (map rec rows)
  shaped e [] = tt
  shaped e (r ∷ rows) = (e r, shaped e rows)

pub length-records : (place k : ℕ) (ks : List Kind) (b : Bytes) → length (records-read place k ks b) ≡ k
unfolding records-read
length-records place zero ks b = refl
length-records place (suc k) ks b = ap suc (length-records (place + whole-size ks b) k ks (drop (whole-size ks b) b))

-- ## The fields of each record, its length apart
abbrev pub file-kinds : List Kind
file-kinds = of_size 4 ∷ of_size 4 ∷ of_size 4 ∷ of_size 4 ∷ of_size 4 ∷ of_size 4 ∷ of_size 4 ∷ of_size 4 ∷ of-name ∷ of-name ∷ []

abbrev pub segment-kinds : List Kind
segment-kinds = of_size 4 ∷ of_size 2 ∷ of-name ∷ []

abbrev pub lane-kinds : List Kind
lane-kinds = of_size 4 ∷ of_size 2 ∷ of_size 2 ∷ of_size 1 ∷ of_size 1 ∷ []

abbrev pub zone-kinds : List Kind
zone-kinds = of_size 4 ∷ of_size 2 ∷ of_size 4 ∷ of_size 2 ∷ of-name ∷ []

abbrev pub spot-kinds : List Kind
spot-kinds = of_size 4 ∷ of_size 2 ∷ []

abbrev pub point-kinds : List Kind
point-kinds = of-coordinate ∷ of-coordinate ∷ []

abbrev pub checkpoint-kinds : List Kind
checkpoint-kinds = of_size 2 ∷ of_size 4 ∷ []

abbrev pub stop-kinds : List Kind
stop-kinds = of_size 4 ∷ []

abbrev pub exit-kinds : List Kind
exit-kinds = of_size 4 ∷ of_size 4 ∷ []

-- as many records as the file's record says. f: its slots
abbrev pub tabs : List Slot → List Tab
tabs f = (at 0 f, segment-kinds) ∷ (at 1 f, lane-kinds) ∷ (at 2 f, zone-kinds) ∷ (at 3 f, spot-kinds) ∷ (at 4 f, point-kinds) ∷ (at 5 f, checkpoint-kinds) ∷ (at 6 f, stop-kinds) ∷ (at 7 f, exit-kinds) ∷ []

-- ## Rows
abbrev named-of : Slot → Option Field
named-of (figure k n) = none
named-of (angle z) = none
named-of (title v) = v

abbrev pub name_in : ℕ → List Slot → Option Field
name_in k [] = none
name_in zero (i ∷ l) = named-of i
name_in (suc k) (i ∷ l) = name_in k l

abbrev pub or-none : Option Field → Field
or-none none = record { start = 0; bytes = [] }
or-none (some v) = v

abbrev pub from : List Slot → List (List (List Slot)) → Tables Field ℕ
from f rs = record {
  file = record { name = or-none (name_in 8 f); version = name_in 9 f; date = none };
  segments = map segment-back (get_or rs 0 []);
  lanes = map lane-back (get_or rs 1 []);
  zones = map zone-back (get_or rs 2 []);
  spots = map spot_back (get_or rs 3 []);
  points = map point-back (get_or rs 4 []);
  checkpoints = map checkpoint-back (get_or rs 5 []);
  stops = map (at 0) (get_or rs 6 []);
  exits = map exit-back (get_or rs 7 []);
}

-- b: the bytes behind version and length
abbrev pub file-items : Bytes → List Slot
file-items b = read 7 file-kinds (drop 2 b)

abbrev pub behind-file : Bytes → Bytes
behind-file b = drop (whole-size file-kinds b) b

-- every record has the length that its fields take, and nothing is left
unfoldable pub all_right : Bytes → Bool
all_right b = here file-kinds b && tabs-here (tabs (file-items b)) (behind-file b)

unfoldable pub rows_told : Bytes → Tables Field ℕ
rows_told b = from (file-items b) (tabs-read (5 + whole-size file-kinds b) (tabs (file-items b)) (behind-file b))

joined : (a b c d e g h k : List Slot) → a ++ (b ++ (c ++ (d ++ (e ++ (g ++ (h ++ (k ++ []))))))) ≡ a ++ (b ++ (c ++ (d ++ (e ++ (g ++ (h ++ k))))))
joined a b c d e g h k = ap (λ (x : List Slot). a ++ (b ++ (c ++ (d ++ (e ++ (g ++ (h ++ x))))))) (append-nil k)

-- ## THERE
all_there : (t : Tables Field ℕ) (b : Bytes) → Each Fit (with_length (file_rec t)) → Each Fit (rest_of t) → NamesLie 5 (items_of t) → t.file.date ≡ none → b ≡ laid (items_of t) → (all_right b ≡ true) × (rows_told b ≡ t)
unfolding all_right rows_told
all_there t b ff fr p dateless is =
    let head = with_length (file_rec t) in
    let cut = placed-cut 5 head (rest_of t) p in
    let one = record-there 5 (file_rec t) (laid (rest_of t)) ff cut.0 in
    let e : b ≡ laid head ++ laid (rest_of t) = is ∙ laid_append head (rest_of t) in
    let l : List Had = (segment-kinds, map segment_rec t.segments) ∷ (lane-kinds, map lane_rec t.lanes) ∷ (zone-kinds, map zone_rec t.zones) ∷ (spot-kinds, map spot_rec t.spots) ∷ (point-kinds, map point_rec t.points) ∷ (checkpoint-kinds, map checkpoint_rec t.checkpoints) ∷ (stop-kinds, map stop_rec t.stops) ∷ (exit-kinds, map exit_rec t.exits) ∷ [] in
    let items : all-items (map (λ t. t.1) l) ≡ rest_of t = joined (laid_out segment_rec t.segments) (laid_out lane_rec t.lanes) (laid_out zone_rec t.zones) (laid_out spot_rec t.spots) (laid_out point_rec t.points) (laid_out checkpoint_rec t.checkpoints) (laid_out stop_rec t.stops) (laid_out exit_rec t.exits) in
    let shapes : Each (λ (t : Had). Each (λ r. map shape r ≡ t.0) t.1) l = (
      shaped segment-kinds segment_rec segment-back (λ r. refl) t.segments,
      (
        shaped lane-kinds lane_rec lane-back (λ r. refl) t.lanes,
        (
          shaped zone-kinds zone_rec zone-back (λ r. refl) t.zones,
          (
            shaped spot-kinds spot_rec spot_back (λ r. refl) t.spots,
            (shaped point-kinds point_rec point-back (λ r. refl) t.points, (shaped checkpoint-kinds checkpoint_rec checkpoint-back (λ r. refl) t.checkpoints, (shaped stop-kinds stop_rec (at 0) (λ r. refl) t.stops, (shaped exit-kinds exit_rec exit-back (λ r. refl) t.exits, tt)))),
          ),
        ),
      ),
    ) in
    let more = tabs-there (5 + length (laid head)) l shapes (subst (Each Fit) (sym items) fr) (subst (NamesLie (5 + length (laid head))) (sym items) cut.1) in
    let c0 = length-map t.segments segment_rec in let c1 = length-map t.lanes lane_rec in let c2 = length-map t.zones zone_rec in let c3 = length-map t.spots spot_rec in
    let c4 = length-map t.points point_rec in let c5 = length-map t.checkpoints checkpoint_rec in let c6 = length-map t.stops stop_rec in let c7 = length-map t.exits exit_rec in
    let counts : map tab-of l ≡ tabs (file_rec t) = λ i. (c0 i, segment-kinds) ∷ (c1 i, lane-kinds) ∷ (c2 i, zone-kinds) ∷ (c3 i, spot-kinds) ∷ (c4 i, point-kinds) ∷ (c5 i, checkpoint-kinds) ∷ (c6 i, stop-kinds) ∷ (c7 i, exit-kinds) ∷ [] in
    let laid_so : laid (all-items (map (λ t. t.1) l)) ≡ laid (rest_of t) = ap laid items in
    let here_so : tabs-here (tabs (file_rec t)) (laid (rest_of t)) ≡ true = ap₂ tabs-here (sym counts) (sym laid_so) ∙ more.0 in
    let read-so : tabs-read (5 + length (laid head)) (tabs (file_rec t)) (laid (rest_of t)) ≡ map (λ t. t.1) l = ap₂ (tabs-read (5 + length (laid head))) (sym counts) (sym laid_so) ∙ more.1 in
    let b' = laid head ++ laid (rest_of t) in
    let r0 = rows_back segment-kinds segment_rec segment-back (λ r. refl) t.segments in let r1 = rows_back lane-kinds lane_rec lane-back (λ r. refl) t.lanes in let r2 = rows_back zone-kinds zone_rec zone-back (λ r. refl) t.zones in let r3 = rows_back spot-kinds spot_rec spot_back (λ r. refl) t.spots in
    let r4 = rows_back point-kinds point_rec point-back (λ r. refl) t.points in let r5 = rows_back checkpoint-kinds checkpoint_rec checkpoint-back (λ r. refl) t.checkpoints in let r6 = rows_back stop-kinds stop_rec (at 0) (λ r. refl) t.stops in let r7 = rows_back exit-kinds exit_rec exit-back (λ r. refl) t.exits in (
      ap (λ (c : Bytes). here file-kinds c && tabs-here (tabs (file-items c)) (behind-file c)) e
          ∙ true-both (here file-kinds b') (tabs-here (tabs (file-items b')) (behind-file b')) one.here_so (ap₂ (λ (f : List Slot) (c : Bytes). tabs-here (tabs f) c) one.is one.left ∙ here_so),
      ap (λ (c : Bytes). from (file-items c) (tabs-read (5 + whole-size file-kinds c) (tabs (file-items c)) (behind-file c))) e
          ∙ ap (λ (f : List Slot). from f (tabs-read (5 + whole-size file-kinds b') (tabs f) (behind-file b'))) one.is
          ∙ ap₂ (λ (k : ℕ) (c : Bytes). from (file_rec t) (tabs-read (5 + k) (tabs (file_rec t)) c)) one.long one.left
          ∙ ap (from (file_rec t)) read-so
          ∙ (λ i. record { file = record { name = t.file.name; version = t.file.version; date = sym dateless i }; segments = r0 i; lanes = r1 i; zones = r2 i; spots = r3 i; points = r4 i; checkpoints = r5 i; stops = r6 i; exits = r7 i }),
    )

pub form-right : (n : Network Field) (bytes : Bytes) → length bytes ≤ longest → IsPackedFormOf n bytes → (all_right (drop 5 bytes) ≡ true) × (rows_told (drop 5 bytes) ≡ tables n)
form-right n bytes h x =
    let a = told bytes n h x in
    all_there (tables n) (drop 5 bytes) a.file_fits a.rest-fits a.placed (table-dateless n x.dateless) (ap (drop 5) a.is ∙ drop_at (big_endian 4 (length (laid (items_of (tables n))))) (laid (items_of (tables n))) 4 (packed-long 4 (length (laid (items_of (tables n))))))

-- ## BACK
segment-same : (place : ℕ) (b : Bytes) → segment_rec (segment-back (read place segment-kinds b)) ≡ read place segment-kinds b
unfolding read
segment-same place b = refl

lane-same : (place : ℕ) (b : Bytes) → lane_rec (lane-back (read place lane-kinds b)) ≡ read place lane-kinds b
unfolding read
lane-same place b = refl

zone-same : (place : ℕ) (b : Bytes) → zone_rec (zone-back (read place zone-kinds b)) ≡ read place zone-kinds b
unfolding read
zone-same place b = refl

spot-same : (place : ℕ) (b : Bytes) → spot_rec (spot_back (read place spot-kinds b)) ≡ read place spot-kinds b
unfolding read
spot-same place b = refl

point-same : (place : ℕ) (b : Bytes) → point_rec (point-back (read place point-kinds b)) ≡ read place point-kinds b
unfolding read
point-same place b = refl

checkpoint-same : (place : ℕ) (b : Bytes) → checkpoint_rec (checkpoint-back (read place checkpoint-kinds b)) ≡ read place checkpoint-kinds b
unfolding read
checkpoint-same place b = refl

stop-same : (place : ℕ) (b : Bytes) → stop_rec (at 0 (read place stop-kinds b)) ≡ read place stop-kinds b
unfolding read
stop-same place b = refl

exit-same : (place : ℕ) (b : Bytes) → exit_rec (exit-back (read place exit-kinds b)) ≡ read place exit-kinds b
unfolding read
exit-same place b = refl

module _ (f : List Slot) (place : ℕ) (b : Bytes) where
  abbrev read-tables : List (List (List Slot))
  read-tables = tabs-read place (tabs f) b

  rest-is : rest_of (from f read-tables) ≡ all-items read-tables
  unfolding tabs-read
  rest-is =
      let b1 = after (at 0 f) segment-kinds b in let p1 = place_after place (at 0 f) segment-kinds b in
      let b2 = after (at 1 f) lane-kinds b1 in let p2 = place_after p1 (at 1 f) lane-kinds b1 in
      let b3 = after (at 2 f) zone-kinds b2 in let p3 = place_after p2 (at 2 f) zone-kinds b2 in
      let b4 = after (at 3 f) spot-kinds b3 in let p4 = place_after p3 (at 3 f) spot-kinds b3 in
      let b5 = after (at 4 f) point-kinds b4 in let p5 = place_after p4 (at 4 f) point-kinds b4 in
      let b6 = after (at 5 f) checkpoint-kinds b5 in let p6 = place_after p5 (at 5 f) checkpoint-kinds b5 in
      let b7 = after (at 6 f) stop-kinds b6 in let p7 = place_after p6 (at 6 f) stop-kinds b6 in
      let q0 = recs_back segment-kinds segment_rec segment-back segment-same place (at 0 f) b in
      let q1 = recs_back lane-kinds lane_rec lane-back lane-same p1 (at 1 f) b1 in
      let q2 = recs_back zone-kinds zone_rec zone-back zone-same p2 (at 2 f) b2 in
      let q3 = recs_back spot-kinds spot_rec spot_back spot-same p3 (at 3 f) b3 in
      let q4 = recs_back point-kinds point_rec point-back point-same p4 (at 4 f) b4 in
      let q5 = recs_back checkpoint-kinds checkpoint_rec checkpoint-back checkpoint-same p5 (at 5 f) b5 in
      let q6 = recs_back stop-kinds stop_rec (at 0) stop-same p6 (at 6 f) b6 in
      let q7 = recs_back exit-kinds exit_rec exit-back exit-same p7 (at 7 f) b7 in
      (λ i. gather with_length (q0 i) ++ (gather with_length (q1 i) ++ (gather with_length (q2 i) ++ (gather with_length (q3 i) ++ (gather with_length (q4 i) ++ (gather with_length (q5 i) ++ (gather with_length (q6 i) ++ gather with_length (q7 i))))))))
      ∙ sym (joined (gather with_length (records-read place (at 0 f) segment-kinds b)) (gather with_length (records-read p1 (at 1 f) lane-kinds b1)) (gather with_length (records-read p2 (at 2 f) zone-kinds b2)) (gather with_length (records-read p3 (at 3 f) spot-kinds b3))
      (gather with_length (records-read p4 (at 4 f) point-kinds b4)) (gather with_length (records-read p5 (at 5 f) checkpoint-kinds b5)) (gather with_length (records-read p6 (at 6 f) stop-kinds b6)) (gather with_length (records-read p7 (at 7 f) exit-kinds b7)))

  -- the counts of the file's record are those of the rows
  file_is : (u v : Option Field) → some (or-none (name_in 8 f)) ≡ u → name_in 9 f ≡ v
      → file_rec (from f read-tables) ≡ figure 4 (at 0 f) ∷ figure 4 (at 1 f) ∷ figure 4 (at 2 f) ∷ figure 4 (at 3 f) ∷ figure 4 (at 4 f) ∷ figure 4 (at 5 f) ∷ figure 4 (at 6 f) ∷ figure 4 (at 7 f) ∷ title u ∷ title v ∷ []
  unfolding tabs-read
  file_is u v eu ev =
      let b1 = after (at 0 f) segment-kinds b in let p1 = place_after place (at 0 f) segment-kinds b in
      let b2 = after (at 1 f) lane-kinds b1 in let p2 = place_after p1 (at 1 f) lane-kinds b1 in
      let b3 = after (at 2 f) zone-kinds b2 in let p3 = place_after p2 (at 2 f) zone-kinds b2 in
      let b4 = after (at 3 f) spot-kinds b3 in let p4 = place_after p3 (at 3 f) spot-kinds b3 in
      let b5 = after (at 4 f) point-kinds b4 in let p5 = place_after p4 (at 4 f) point-kinds b4 in
      let b6 = after (at 5 f) checkpoint-kinds b5 in let p6 = place_after p5 (at 5 f) checkpoint-kinds b5 in
      let b7 = after (at 6 f) stop-kinds b6 in let p7 = place_after p6 (at 6 f) stop-kinds b6 in
      let q0 = length-map (records-read place (at 0 f) segment-kinds b) segment-back ∙ length-records place (at 0 f) segment-kinds b in
      let q1 = length-map (records-read p1 (at 1 f) lane-kinds b1) lane-back ∙ length-records p1 (at 1 f) lane-kinds b1 in
      let q2 = length-map (records-read p2 (at 2 f) zone-kinds b2) zone-back ∙ length-records p2 (at 2 f) zone-kinds b2 in
      let q3 = length-map (records-read p3 (at 3 f) spot-kinds b3) spot_back ∙ length-records p3 (at 3 f) spot-kinds b3 in
      let q4 = length-map (records-read p4 (at 4 f) point-kinds b4) point-back ∙ length-records p4 (at 4 f) point-kinds b4 in
      let q5 = length-map (records-read p5 (at 5 f) checkpoint-kinds b5) checkpoint-back ∙ length-records p5 (at 5 f) checkpoint-kinds b5 in
      let q6 = length-map (records-read p6 (at 6 f) stop-kinds b6) (at 0) ∙ length-records p6 (at 6 f) stop-kinds b6 in
      let q7 = length-map (records-read p7 (at 7 f) exit-kinds b7) exit-back ∙ length-records p7 (at 7 f) exit-kinds b7 in
      λ i. figure 4 (q0 i) ∷ figure 4 (q1 i) ∷ figure 4 (q2 i) ∷ figure 4 (q3 i) ∷ figure 4 (q4 i) ∷ figure 4 (q5 i) ∷ figure 4 (q6 i) ∷ figure 4 (q7 i) ∷ title (eu i) ∷ title (ev i) ∷ []

-- a name that is there
given : (u : Option Field) → 1 ≤ length (or-none u).bytes → some (or-none u) ≡ u
given none h = absurd (omega arith)
given (some v) h = refl

items-told : (place : ℕ) (b : Bytes) → figure 4 (at 0 (read place file-kinds b)) ∷ figure 4 (at 1 (read place file-kinds b)) ∷ figure 4 (at 2 (read place file-kinds b)) ∷ figure 4 (at 3 (read place file-kinds b)) ∷ figure 4 (at 4 (read place file-kinds b)) ∷ figure 4 (at 5 (read place file-kinds b)) ∷ figure 4 (at 6 (read place file-kinds b)) ∷ figure 4 (at 7 (read place file-kinds b))
    ∷ title (name_in 8 (read place file-kinds b)) ∷ title (name_in 9 (read place file-kinds b)) ∷ [] ≡ read place file-kinds b
unfolding read
items-told place b = refl

all_back : (b : Bytes) → Small b → all_right b ≡ true → 1 ≤ length (rows_told b).file.name.bytes → (laid (items_of (rows_told b)) ≡ b) × NamesLie 5 (items_of (rows_told b))
unfolding all_right rows_told
all_back b s h named =
    let f = file-items b in
    let rs = tabs-read (5 + whole-size file-kinds b) (tabs f) (behind-file b) in
    let u = both_true (here file-kinds b) (tabs-here (tabs f) (behind-file b)) h in
    let one = record-back 5 file-kinds b s u.0 in
    let more = tabs-back (5 + whole-size file-kinds b) (tabs f) (behind-file b) (small_drop (whole-size file-kinds b) b s) u.1 in
    let head : file_rec (from f rs) ≡ f = file_is f (5 + whole-size file-kinds b) (behind-file b) (name_in 8 f) (name_in 9 f) (given (name_in 8 f) named) refl ∙ items-told 7 (drop 2 b) in
    let items : items_of (from f rs) ≡ with_length f ++ all-items rs = ap₂ (λ (x y : List Slot). with_length x ++ y) head (rest-is f (5 + whole-size file-kinds b) (behind-file b)) in (
      ap laid items ∙ laid_append (with_length f) (all-items rs) ∙ ap (◌++◌ (laid (with_length f))) more.0 ∙ one.whole,
      subst (NamesLie 5) (sym items) (placed-both 5 (with_length f) (all-items rs) one.placed (subst (λ (k : ℕ). NamesLie (5 + k) (all-items rs)) (sym one.long) more.1)),
    )

told-dateless : (b : Bytes) → (rows_told b).file.date ≡ none
unfolding rows_told
told-dateless b = refl

-- 29, record by record: bytes of this version, framed, are a network's form exactly if every record has its fields' length, the rows are consistent and the names are names; these rows are the network's
pub right-form : (bytes : Bytes) → Small bytes → bytes ≡ this_version ∷ big_endian 4 (length (drop 5 bytes)) ++ drop 5 bytes → all_right (drop 5 bytes) ≡ true → Consistent (rows_told (drop 5 bytes)) → TableNames (rows_told (drop 5 bytes)) → IsForm (rows_told (drop 5 bytes)) bytes
unfolding form_of
right-form bytes s is h c names =
    let x = all_back (drop 5 bytes) (small_drop 5 bytes s) h names.name.long.low in
    record { form = is ∙ ap (λ (b : Bytes). this_version ∷ big_endian 4 (length b) ++ b) (sym x.0); placed = x.1; dateless = told-dateless (drop 5 bytes); consistent = c; names = names }
