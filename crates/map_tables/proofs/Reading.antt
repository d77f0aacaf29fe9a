-- The filled tables of a network read as its rows. Assumes nothing.
use mathlib.Core.Path.{sym, subst, ◌∙◌}
use mathlib.Core.List.{List, [], map}
use mathlib.Core.Logic.{inl, inr}
use Prim.Native.Nat.{ℕ, ◌≤◌}
use native.Mathlib.Omega.{arith}
use lib.ListN.{length, length-map}
use Rattle.terms.specs.Words.{Each}
use Rattle.terms.proofs.Lists.{each_map, each-any}
use Rattle.line.specs.Content.{Field}
use Rattle.rows.specs.Lay.{row_at, rows_of}
use Rattle.rows.specs.Read.{segment_at_of, lane_at_of, zone_at_of, spot_at_of, point_at_of, checkpoint_at_of}
use Rattle.rows.specs.Table.{table_of}
use Rattle.rows.proofs.Forms.{Form}
use Rattle.rows.proofs.Forms as Forms
use Rattle.filled_rows.specs.From.{From}
use Rattle.filled_rows.proofs.From.{filled-from}
use Rattle.law.specs.Network.{Network}
use Rattle.law.specs.Tables.{Lent, HasRoom, filled}
use Rattle.law.specs.Faults.{Sound}
use Rattle.grammar.specs.Tables.{tables, point_row_of}
use Rattle.grammar.specs.HouseOrder.{GoodNetwork}
use Rattle.grammar.proofs.Rows.{each-of_map}
use Rattle.table_words.specs.Shown.{shown_segment, shown_lane, shown_zone, shown_spot, shown_point, shown_checkpoint}
use Rattle.table_words.proofs.Shown.{tables-shown}
use Rattle.table_words.proofs.Filled.{rows_fit}
use Rattle.table_words.proofs.Bounds.{WidthBound, LaneBounds, SpotBounds, CheckpointBounds, bounded}
use Rattle.law_tables.proofs.SameTables.{filled-same, room_back}
use Rattle.map_tables.proofs.Lanes.{start_of, length-of}

-- the tables that a map is drawn from, row by row
pub record ReadAs (n : Network Field) (l : Lent) : Type 0 where
  pub segments : From (segment_at_of l.segments) 0 (map (shown_segment start_of length-of) (tables n).segments)
  pub lanes : From (lane_at_of l.lanes) 0 (map shown_lane (tables n).lanes)
  pub zones : From (zone_at_of l.zones) 0 (map (shown_zone start_of length-of) (tables n).zones)
  pub spots : From (spot_at_of l.spots) 0 (map shown_spot (tables n).spots)
  pub points : From (point_at_of l.points) 0 (map shown_point (tables n).points)
  pub checkpoints : From (checkpoint_at_of l.checkpoints) 0 (map shown_checkpoint (tables n).checkpoints)

-- one table
reads : {G R X : Type 0} (f : Form R X) (shown : G → R) (n : ℕ) (gs : List G) → length gs ≤ rows_of n f.stride → Each (λ g. f.Fits (shown g)) gs
    → From (λ i. f.back (row_at f.stride (table_of f.nought f.words n (map shown gs)) i)) 0 (map shown gs)
reads f shown n gs room fits =
    filled-from f n (map shown gs) (f.back []) (rows_fit (length (map shown gs)) n f.stride (subst (λ (k : ℕ). k ≤ rows_of n f.stride) (sym (length-map gs shown)) room)) (each-of_map f.Fits shown gs fits)

short : (w : ℕ) → WidthBound w → w ≤ 65535
short w (inl e) = omega arith
short w (inr h) = omega arith

-- THE LAW
pub filled-read : (n : Network Field) (t : Lent) → GoodNetwork n → Sound n → HasRoom n t → ReadAs n (filled n t)
filled-read n t good sound room =
    let h = room_back n t room in
    let b = bounded n good (point_row_of n) in
    subst (ReadAs n) (tables-shown start_of length-of (tables n) t ∙ filled-same n sound t)
    (record {
      segments = reads Forms.segment (shown_segment start_of length-of) (length t.segments) (tables n).segments h.segments (each-any (tables n).segments);
      lanes = reads Forms.lane shown_lane (length t.lanes) (tables n).lanes h.lanes
          (each_map (LaneBounds (length (tables n).points)) (λ r. (r.width ≤ 65535) × (r.left ≤ 255) × (r.right ≤ 255)) (λ r k. let a = k.left in let c = k.right in (short r.width k.width, omega arith, omega arith)) (tables n).lanes b.lanes);
      zones = reads Forms.zone (shown_zone start_of length-of) (length t.zones) (tables n).zones h.zones (each-any (tables n).zones);
      spots = reads Forms.spot shown_spot (length t.spots) (tables n).spots h.spots (each_map (SpotBounds (length (tables n).points)) (λ r. r.width ≤ 65535) (λ r k. short r.width k.width) (tables n).spots b.spots);
      points = reads Forms.point shown_point (length t.points) (tables n).points h.points (each-any (tables n).points);
      checkpoints = reads Forms.checkpoint shown_checkpoint (length t.checkpoints) (tables n).checkpoints h.checkpoints
          (each_map (CheckpointBounds (length (tables n).points)) (λ r. r.number ≤ 65535) (λ r k. let a = k.number.high in omega arith) (tables n).checkpoints b.checkpoints);
    })
