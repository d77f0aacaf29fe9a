-- Bytes that a judge of 29 takes are the form of the network of their rows; what is counted, named and stored of them is that network's. Assumes nothing.
use mathlib.Core.Path.{◌≡◌, refl, sym, ap, subst, ◌∙◌}
use mathlib.Core.List.{List, [], ◌∷◌, ◌++◌}
use mathlib.Core.Option.{Option, none, some}
use mathlib.Core.Bool.{true}
use Prim.Native.Nat.{ℕ, ◌+◌, ◌*◌, ◌/◌, ◌≤◌}
use native.Mathlib.Omega.{arith}
use native.Mathlib.Nat.{mul-le-mul_right, div-mul-le_self}
use lib.ListN.{length, drop, length-map}
use lib.Seq.{drop-drop}
use Rattle.terms.specs.Ascii.{Bytes}
use Rattle.line.specs.Content.{Field}
use Rattle.law.specs.Network.{Network}
use Rattle.law.specs.Tables.{Lent, zeros}
use Rattle.law.specs.Tables as Law
use Rattle.rows.specs.declared.Stretch.{Stretch}
use Rattle.rows.specs.declared.FileRow.{FileRow}
use Rattle.rows.proofs.Forms as Forms
use Rattle.counts.specs.declared.Counts.{Counts}
use Rattle.fill.specs.Counts as F
use Rattle.grammar.specs.Tables.{Tables, tables, tables_with}
use Rattle.table_words.specs.Words.{HasRoom, filled}
use Rattle.table_words.specs.FileRows.{shown_name, shown_file}
use Rattle.table_words.specs.Shown.{shown_segment, shown_lane, shown_zone, shown_spot, shown_point, shown_checkpoint, shown_stop, shown_exit}
use Rattle.table_words.proofs.Shown.{typed, tables-shown}
use Rattle.law_tables.specs.Used as Used
use Rattle.law_tables.proofs.SameRows.{start_of, length-of}
use Rattle.law_tables.proofs.SameTables.{counts_same, filled-same, room-to, room_back}
use Rattle.output.specs.Packed.{big_endian}
use Rattle.replies.specs.Replies.{longest, rows_used_of, network_file, stretch}
use Rattle.packed_law.specs.Packed.{Slot}
use Rattle.row_network.specs.Consistent.{Consistent}
use Rattle.row_network.specs.Made.{network_of}
use Rattle.row_network.proofs.Made.{tables-are, sound}
use Rattle.unpackings.specs.Unpacks.{IsPackedFormOf}
use Rattle.unpackings.proofs.Rows.{at, segment-back, lane-back, zone-back, spot_back, point-back, checkpoint-back, exit-back}
use Rattle.packed_tables.proofs.Names.{TableNames}
use Rattle.packed_tables.proofs.Reading.{rows-of}
use Rattle.packed_tables.proofs.Forms.{form-made, form-only}
use Rattle.packed_tables.proofs.Records.{Small, both_true, here, whole-size, all_here, after, place_after, records-read, after-from}
use Rattle.packed_tables.proofs.Whole.{Tab, tabs, tabs-here, tabs-read, file-kinds, segment-kinds, lane-kinds, zone-kinds, spot-kinds, point-kinds, checkpoint-kinds, stop-kinds, exit-kinds, all_right, rows_told, length-records, form-right, right-form, file-items}
use Rattle.unpacked_rows.specs.declared.Places.{Places}
use Rattle.unpacked_rows.specs.Told.{segment_told_of, lane_told_of, zone_told_of, spot_told_of, point_told_of, checkpoint_told_of, stop_told_of, exit_told_of, behind_sized, behind_segment_of, behind_zone_of}
use Rattle.unpacked_rows.specs.Stored.{tables_stored}
use Rattle.unpacked_tables.proofs.Rows.{segment-so, segment_next, lane-so, lane-next, zone-so, zone_next, spot-so, spot_next, point-so, point-next, checkpoint-so, checkpoint-next, stop-so, stop-next, exit-so, exit-next}
use Rattle.unpacked_tables.proofs.Tables.{stored-so}
use Rattle.unpacked_tables.proofs.Judging.{Right, FormTold, counted, counts-told, file-told, tab-places, places-told}

-- ## The counts of the file's record are those of the rows
pub sizes-so : (b : Bytes) → F.sizes (rows_told b) ≡ counted (file-items b)
unfolding rows_told tabs-read
sizes-so b =
    let f = file-items b in
    let p0 = 5 + whole-size file-kinds b in let b0 = drop (whole-size file-kinds b) b in
    let b1 = after (at 0 f) segment-kinds b0 in let p1 = place_after p0 (at 0 f) segment-kinds b0 in
    let b2 = after (at 1 f) lane-kinds b1 in let p2 = place_after p1 (at 1 f) lane-kinds b1 in
    let b3 = after (at 2 f) zone-kinds b2 in let p3 = place_after p2 (at 2 f) zone-kinds b2 in
    let b4 = after (at 3 f) spot-kinds b3 in let p4 = place_after p3 (at 3 f) spot-kinds b3 in
    let b5 = after (at 4 f) point-kinds b4 in let p5 = place_after p4 (at 4 f) point-kinds b4 in
    let b6 = after (at 5 f) checkpoint-kinds b5 in let p6 = place_after p5 (at 5 f) checkpoint-kinds b5 in
    let b7 = after (at 6 f) stop-kinds b6 in let p7 = place_after p6 (at 6 f) stop-kinds b6 in
    let q0 = length-map (records-read p0 (at 0 f) segment-kinds b0) segment-back ∙ length-records p0 (at 0 f) segment-kinds b0 in
    let q1 = length-map (records-read p1 (at 1 f) lane-kinds b1) lane-back ∙ length-records p1 (at 1 f) lane-kinds b1 in
    let q2 = length-map (records-read p2 (at 2 f) zone-kinds b2) zone-back ∙ length-records p2 (at 2 f) zone-kinds b2 in
    let q3 = length-map (records-read p3 (at 3 f) spot-kinds b3) spot_back ∙ length-records p3 (at 3 f) spot-kinds b3 in
    let q4 = length-map (records-read p4 (at 4 f) point-kinds b4) point-back ∙ length-records p4 (at 4 f) point-kinds b4 in
    let q5 = length-map (records-read p5 (at 5 f) checkpoint-kinds b5) checkpoint-back ∙ length-records p5 (at 5 f) checkpoint-kinds b5 in
    let q6 = length-map (records-read p6 (at 6 f) stop-kinds b6) (at 0) ∙ length-records p6 (at 6 f) stop-kinds b6 in
    let q7 = length-map (records-read p7 (at 7 f) exit-kinds b7) exit-back ∙ length-records p7 (at 7 f) exit-kinds b7 in
    λ i. record { segments = q0 i; lanes = q1 i; zones = q2 i; spots = q3 i; points = q4 i; checkpoints = q5 i; stops = q6 i; exits = q7 i }

-- ## The tables: what is stored of all records are the rows
rows_fit : (n stride k : ℕ) → k ≤ n / stride → k * stride ≤ n
rows_fit n stride k h = let a = mul-le-mul_right stride h in let b = div-mul-le_self n stride in omega arith

tables-so : (bytes : Bytes) (t : Lent) → Small bytes → length bytes ≤ longest → all_right (drop 5 bytes) ≡ true → HasRoom (counted (file-items (drop 5 bytes))) t
    → tables_stored bytes (counts-told bytes) (places-told bytes) (zeros t) ≡ typed start_of length-of (rows_told (drop 5 bytes)) t
unfolding all_right rows_told tabs-here tabs-read tab-places counts-told places-told tables_stored
tables-so bytes t s few h room =
    let b = drop 5 bytes in
    let f = file-items b in
    let u = both_true (here file-kinds b) (tabs-here (tabs f) (drop (whole-size file-kinds b) b)) h in
    let p0 = 5 + whole-size file-kinds b in let b0 = drop (whole-size file-kinds b) b in
    let b1 = after (at 0 f) segment-kinds b0 in let p1 = place_after p0 (at 0 f) segment-kinds b0 in
    let b2 = after (at 1 f) lane-kinds b1 in let p2 = place_after p1 (at 1 f) lane-kinds b1 in
    let b3 = after (at 2 f) zone-kinds b2 in let p3 = place_after p2 (at 2 f) zone-kinds b2 in
    let b4 = after (at 3 f) spot-kinds b3 in let p4 = place_after p3 (at 3 f) spot-kinds b3 in
    let b5 = after (at 4 f) point-kinds b4 in let p5 = place_after p4 (at 4 f) point-kinds b4 in
    let b6 = after (at 5 f) checkpoint-kinds b5 in let p6 = place_after p5 (at 5 f) checkpoint-kinds b5 in
    let b7 = after (at 6 f) stop-kinds b6 in let p7 = place_after p6 (at 6 f) stop-kinds b6 in
    let b8 = after (at 7 f) exit-kinds b7 in
    let e0 : b0 ≡ drop p0 bytes = drop-drop (whole-size file-kinds b) 5 bytes in
    let e1 = after-from (at 0 f) p0 segment-kinds bytes b0 e0 in let e2 = after-from (at 1 f) p1 lane-kinds bytes b1 e1 in
    let e3 = after-from (at 2 f) p2 zone-kinds bytes b2 e2 in let e4 = after-from (at 3 f) p3 spot-kinds bytes b3 e3 in
    let e5 = after-from (at 4 f) p4 point-kinds bytes b4 e4 in let e6 = after-from (at 5 f) p5 checkpoint-kinds bytes b5 e5 in
    let e7 = after-from (at 6 f) p6 stop-kinds bytes b6 e6 in
    let r7 : List Tab = (at 7 f, exit-kinds) ∷ [] in let r6 : List Tab = (at 6 f, stop-kinds) ∷ r7 in let r5 : List Tab = (at 5 f, checkpoint-kinds) ∷ r6 in let r4 : List Tab = (at 4 f, point-kinds) ∷ r5 in
    let r3 : List Tab = (at 3 f, spot-kinds) ∷ r4 in let r2 : List Tab = (at 2 f, zone-kinds) ∷ r3 in let r1 : List Tab = (at 1 f, lane-kinds) ∷ r2 in
    let h0 = both_true (all_here (at 0 f) segment-kinds b0) (tabs-here r1 b1) u.1 in let h1 = both_true (all_here (at 1 f) lane-kinds b1) (tabs-here r2 b2) h0.1 in
    let h2 = both_true (all_here (at 2 f) zone-kinds b2) (tabs-here r3 b3) h1.1 in let h3 = both_true (all_here (at 3 f) spot-kinds b3) (tabs-here r4 b4) h2.1 in
    let h4 = both_true (all_here (at 4 f) point-kinds b4) (tabs-here r5 b5) h3.1 in let h5 = both_true (all_here (at 5 f) checkpoint-kinds b5) (tabs-here r6 b6) h4.1 in
    let h6 = both_true (all_here (at 6 f) stop-kinds b6) (tabs-here r7 b7) h5.1 in let h7 = both_true (all_here (at 7 f) exit-kinds b7) (tabs-here [] b8) h6.1 in
    let t0 = stored-so Forms.segment segment-kinds segment-back (shown_segment start_of length-of) segment_told_of behind_segment_of bytes (segment-so bytes s few) (segment_next bytes s) (at 0 f) p0 (length t.segments) b0 e0 h0.0 (rows_fit (length t.segments) 4 (at 0 f) room.segments) in
    let t1 = stored-so Forms.lane lane-kinds lane-back shown_lane lane_told_of (behind_sized 12) bytes (lane-so bytes s) (lane-next bytes s) (at 1 f) p1 (length t.lanes) b1 e1 h1.0 (rows_fit (length t.lanes) 5 (at 1 f) room.lanes) in
    let t2 = stored-so Forms.zone zone-kinds zone-back (shown_zone start_of length-of) zone_told_of behind_zone_of bytes (zone-so bytes s few) (zone_next bytes s) (at 2 f) p2 (length t.zones) b2 e2 h2.0 (rows_fit (length t.zones) 6 (at 2 f) room.zones) in
    let t3 = stored-so Forms.spot spot-kinds spot_back shown_spot spot_told_of (behind_sized 8) bytes (spot-so bytes s) (spot_next bytes s) (at 3 f) p3 (length t.spots) b3 e3 h3.0 (rows_fit (length t.spots) 2 (at 3 f) room.spots) in
    let t4 = stored-so Forms.point point-kinds point-back shown_point point_told_of (behind_sized 10) bytes (point-so bytes s) (point-next bytes s) (at 4 f) p4 (length t.points) b4 e4 h4.0 (rows_fit (length t.points) 2 (at 4 f) room.points) in
    let t5 = stored-so Forms.checkpoint checkpoint-kinds checkpoint-back shown_checkpoint checkpoint_told_of (behind_sized 8) bytes (checkpoint-so bytes s) (checkpoint-next bytes s) (at 5 f) p5 (length t.checkpoints) b5 e5 h5.0 (rows_fit (length t.checkpoints) 2 (at 5 f) room.checkpoints) in
    let t6 = stored-so Forms.stop stop-kinds (at 0) shown_stop stop_told_of (behind_sized 6) bytes (stop-so bytes s) (stop-next bytes s) (at 6 f) p6 (length t.stops) b6 e6 h6.0 (rows_fit (length t.stops) 1 (at 6 f) room.stops) in
    let t7 = stored-so Forms.exit exit-kinds exit-back shown_exit exit_told_of (behind_sized 10) bytes (exit-so bytes s) (exit-next bytes s) (at 7 f) p7 (length t.exits) b7 e7 h7.0 (rows_fit (length t.exits) 2 (at 7 f) room.exits) in
    λ i. record { segments = t0 i; lanes = t1 i; zones = t2 i; spots = t3 i; points = t4 i; checkpoints = t5 i; stops = t6 i; exits = t7 i }

-- ## The network
shown-same : (v : Option Field) → shown_name start_of length-of v ≡ stretch v
shown-same none = refl
shown-same (some v) = refl

file-same : (n : Network Field) → shown_file start_of length-of (tables n).file ≡ network_file n
unfolding tables_with
file-same n = let version = shown-same n.version in let date = shown-same n.date in λ i. record { name = stretch (some n.name); version = version i; date = date i }

module _ (bytes : Bytes) (right : Right bytes) where
  abbrev pub told-network : Network Field
  told-network = network_of (rows_told (drop 5 bytes))

  rows : tables told-network ≡ rows_told (drop 5 bytes)
  rows = tables-are (rows_told (drop 5 bytes)) right.consistent

  counts-so : F.sizes (tables told-network) ≡ counted (file-items (drop 5 bytes))
  counts-so = ap F.sizes rows ∙ sizes-so (drop 5 bytes)

  -- the counts
  pub counts-used : counts-told bytes ≡ rows_used_of told-network
  unfolding counts-told
  counts-used = ap Used.rows_used_of (sym counts-so ∙ counts_same told-network)

  -- the file's row
  pub file-used : file-told bytes ≡ network_file told-network
  unfolding file-told
  file-used = ap (λ (r : Tables Field ℕ). shown_file start_of length-of r.file) (sym rows) ∙ file-same told-network

  -- room
  pub has_room : (t : Lent) → HasRoom (counted (file-items (drop 5 bytes))) t → Law.HasRoom told-network t
  has_room t h = room-to told-network t (subst (λ (c : F.Counts). HasRoom c t) (sym counts-so) h)

  pub room-there : (t : Lent) → Law.HasRoom told-network t → HasRoom (counted (file-items (drop 5 bytes))) t
  room-there t h = subst (λ (c : F.Counts). HasRoom c t) counts-so (room_back told-network t h)

  module _ (small : Small bytes) where
    -- the tables
    pub tables-filled : (t : Lent) → length bytes ≤ longest → HasRoom (counted (file-items (drop 5 bytes))) t → tables_stored bytes (counts-told bytes) (places-told bytes) (zeros t) ≡ Law.filled told-network t
    tables-filled t few room =
        tables-so bytes t small few right.framed room ∙ tables-shown start_of length-of (rows_told (drop 5 bytes)) t
        ∙ ap (λ (r : Tables Field ℕ). filled start_of length-of r t) (sym rows) ∙ filled-same told-network (sound (rows_told (drop 5 bytes)) right.consistent) t

    -- the form
    pub is_form : bytes ≡ 2 ∷ big_endian 4 (length (drop 5 bytes)) ++ drop 5 bytes → IsPackedFormOf told-network bytes
    is_form is = form-made (rows_told (drop 5 bytes)) bytes (right-form bytes small is right.framed right.consistent right.names)

-- only these are a form
pub form-is-right : (n : Network Field) (bytes : Bytes) → length bytes ≤ longest → IsPackedFormOf n bytes → Right bytes
form-is-right n bytes few x =
    let a = form-right n bytes few x in
    let c = form-only n bytes few x in
    let same : rows-of bytes ≡ rows_told (drop 5 bytes) = c.0 ∙ sym a.1 in
    record { framed = a.0; consistent = subst Consistent same c.1.consistent; names = subst TableNames same c.1.names }
