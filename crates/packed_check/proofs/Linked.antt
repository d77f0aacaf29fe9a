-- The passes over lanes, points, checkpoints, stops, exits and parts together: they say exactly these parts of `All-right` and `Consistent` of the rows. (`frame_tables` has the others.) Assumes nothing.
use mathlib.Core.Path.{◌≡◌, sym, subst, ◌∙◌}
use mathlib.Core.List.{[], map}
use mathlib.Core.Bool.{true}
use Prim.Native.Nat.{ℕ}
use lib.ListN.{length, drop, length-map}
use Rattle.terms.specs.Ascii.{Bytes}
use Rattle.terms.specs.Words.{Each, Between}
use Rattle.line.specs.Content.{Field}
use Rattle.law.specs.Tables.{total}
use Rattle.counts.specs.declared.Counts.{Counts}
use Rattle.grammar.specs.Network.{largest, OnEarth}
use Rattle.grammar.specs.References.{Different}
use Rattle.grammar.specs.Tables.{CheckpointRow, ExitRow, Tables, FileRow}
use Rattle.unpackings.proofs.Rows.{point-back}
use Rattle.row_network.specs.Consistent.{LaneRowRight, Running, zone_span, SpotsRunning, behind, ZoneParts, IsEntry, lanes_end}
use Rattle.packed_rows.specs.Fixed.{records_here}
use Rattle.packed_rows.specs.Points.{points_right}
use Rattle.packed_rows.specs.Lanes.{lanes_right}
use Rattle.packed_parts.specs.declared.Table.{Table}
use Rattle.packed_parts.specs.Numbers.{numbers_right}
use Rattle.packed_parts.specs.Entries.{exits_right}
use Rattle.packed_parts.specs.Parts.{cell_at, last_end, parts_right}
use Rattle.packed_tables.proofs.Records.{Small, all_here, records-read}
use Rattle.packed_tables.proofs.Whole.{lane-kinds, zone-kinds, spot-kinds, point-kinds, checkpoint-kinds, stop-kinds, exit-kinds, length-records}
use Rattle.packed_tables.proofs.Points.{points_so, points-all}
use Rattle.packed_tables.proofs.Fixed.{stops-walked}
use Rattle.part_tables.proofs.Lanes.{lanes_so, lanes_all, end-so}
use Rattle.part_tables.proofs.Checkpoints.{checkpoints-so, checkpoints-all}
use Rattle.part_tables.proofs.Parts.{Found, entries-so, entries-all, parts-so, parts_all}
use Rattle.unpacked_rows.specs.declared.Places.{Places}
use Rattle.packed_check.proofs.Where.{rows-by}

-- these parts of Consistent. point: the first zone point
pub record Rest (t : Tables Field ℕ) (point : ℕ) : Type 0 where
  pub lanes : Each LaneRowRight t.lanes
  pub points : Each OnEarth t.points
  pub checkpoints : Each (λ r. Between 1 largest r.number) t.checkpoints
  pub numbers : Different (map (λ (r : CheckpointRow). r.number) t.checkpoints)
  pub entries : Each (λ r. IsEntry point (length t.points) t.spots r.entry) t.exits
  pub lanes_running : Running (λ r. r.first_point_of) (λ r. r.points) 0 t.lanes
  pub stops : behind (λ p. p) 0 t.lanes t.stops ≡ []
  pub parts : ZoneParts point point t.zones (behind (λ r. r.point) 0 t.lanes t.checkpoints) (behind (λ r. r.point) 0 t.lanes t.exits)

-- what the pass over zones and spots has found
pub record Framed (t : Tables Field ℕ) (point : ℕ) : Type 0 where
  pub zones_running : Running (λ r. r.first_point_of) zone_span point t.zones
  pub spots_running : SpotsRunning point t.zones t.spots
  pub spots_count : total (λ r. r.spots) t.zones ≡ length t.spots

abbrev pub table : (from count : ℕ) → Table
table from count = record { from = from; count = count }

module _ (b : Bytes) (s : Small b) (file : FileRow Field) (c : Counts) (p : Places) where
  abbrev t : Tables Field ℕ
  t = rows-by b file c p

  points-long : length (rows-by b file c p).points ≡ c.points
  points-long = length-map (records-read p.points c.points point-kinds (drop p.points b)) point-back ∙ length-records p.points c.points point-kinds (drop p.points b)

  -- the first zone point is behind the last lane
  pub point-so : all_here c.lanes lane-kinds (drop p.lanes b) ≡ true → Running (λ r. r.first_point_of) (λ r. r.points) 0 (rows-by b file c p).lanes → last_end b p.lanes c.lanes ≡ lanes_end (rows-by b file c p)
  point-so h run = end-so b s p.lanes c.lanes p.lanes h run

  -- ## What code does
  pub record Tested (point : ℕ) : Type 0 where
    pub lanes : lanes_right c.lanes b p.lanes 0 ≡ true
    pub points : points_right c.points b p.points ≡ true
    pub checkpoints : numbers_right c.checkpoints b p.checkpoints [] ≡ true
    pub stops : records_here c.stops 4 (drop p.stops b) ≡ true
    pub exits : exits_right c.exits b p.exits (cell_at b p.spots 8 2) c.spots c.points point ≡ true
    pub parts : parts_right b (table p.lanes c.lanes) (table p.zones c.zones) (table p.checkpoints c.checkpoints) (table p.stops c.stops) (table p.exits c.exits) point ≡ true

  -- ## What it says
  pub record Here : Type 0 where
    pub lanes : all_here c.lanes lane-kinds (drop p.lanes b) ≡ true
    pub points : all_here c.points point-kinds (drop p.points b) ≡ true
    pub checkpoints : all_here c.checkpoints checkpoint-kinds (drop p.checkpoints b) ≡ true
    pub stops : all_here c.stops stop-kinds (drop p.stops b) ≡ true
    pub exits : all_here c.exits exit-kinds (drop p.exits b) ≡ true

  module _ (point : ℕ) (zones_here : all_here c.zones zone-kinds (drop p.zones b) ≡ true) (spots-here : all_here c.spots spot-kinds (drop p.spots b) ≡ true) (framed : Framed (rows-by b file c p) point) where
    found : Here → Running (λ r. r.first_point_of) (λ r. r.points) 0 t.lanes → Found b (table p.lanes c.lanes) (table p.zones c.zones) (table p.checkpoints c.checkpoints) (table p.stops c.stops) (table p.exits c.exits) point p.lanes p.zones
    found h run = record { small = s; lanes_here = h.lanes; zones_here = zones_here; checkpoints_here = h.checkpoints; stops_here = h.stops; exits_here = h.exits; lanes_running = run; zones_running = framed.zones_running }

    abbrev Entries : ℕ → Type 0
    Entries n = Each (λ (r : ExitRow ℕ). IsEntry point n t.spots r.entry) t.exits

    -- THE LAW: what passes is so
    pub rest-so : Tested point → Here × Rest (rows-by b file c p) point
    rest-so d =
        let l = lanes_so b s p.lanes c.lanes p.lanes 0 d.lanes in
        let o = points_so p.points c.points b p.points d.points in
        let k = checkpoints-so b s p.checkpoints c.checkpoints p.checkpoints d.checkpoints in
        let e = entries-so b s (table p.spots c.spots) p.spots spots-here point t.zones framed.spots_running framed.spots_count c.points point p.exits c.exits p.exits d.exits in
        let h : Here = record { lanes = l.0; points = o.0; checkpoints = k.0; stops = stops-walked c.stops (drop p.stops b) ∙ d.stops; exits = e.0 } in
        let q = parts-so b (table p.lanes c.lanes) (table p.zones c.zones) (table p.checkpoints c.checkpoints) (table p.stops c.stops) (table p.exits c.exits) point p.lanes p.zones p.checkpoints p.stops p.exits (found h l.1.running) d.parts in (
          h,
          record { lanes = l.1.each; points = o.1; checkpoints = k.1.0; numbers = k.1.1; entries = subst Entries (sym points-long) e.1; lanes_running = l.1.running; stops = q.0; parts = q.1 },
        )

    -- and all that is so passes
    pub rest_all : Here → Rest (rows-by b file c p) point → Tested point
    rest_all h r = record {
      lanes = lanes_all b s p.lanes c.lanes p.lanes 0 h.lanes (record { each = r.lanes; running = r.lanes_running });
      points = points-all p.points c.points b p.points h.points r.points;
      checkpoints = checkpoints-all b s p.checkpoints c.checkpoints p.checkpoints h.checkpoints r.checkpoints r.numbers;
      stops = sym (stops-walked c.stops (drop p.stops b)) ∙ h.stops;
      exits = entries-all b s (table p.spots c.spots) p.spots spots-here point t.zones framed.spots_running framed.spots_count c.points point p.exits c.exits p.exits h.exits (subst Entries points-long r.entries);
      parts = parts_all b (table p.lanes c.lanes) (table p.zones c.zones) (table p.checkpoints c.checkpoints) (table p.stops c.stops) (table p.exits c.exits) point p.lanes p.zones p.checkpoints p.stops p.exits (found h r.lanes_running) r.stops r.parts;
    }
