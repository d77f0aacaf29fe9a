-- The passes over the file's record, segments, zones and spots together: they say exactly these parts of `All-right`, `Consistent` and `TableNames` of the rows told. (The lanes between them are another pass.) Assumes nothing.
use Rattle.std.specs.Prelude.{Some}
use mathlib.Core.Path.{◌≡◌, sym, ap, ap₂, subst, ◌∙◌}
use mathlib.Core.List.{List, map}
use mathlib.Core.Bool.{true}
use Prim.Native.Nat.{ℕ, ◌+◌, ◌*◌}
use lib.ListN.{length, drop, length-map}
use Rattle.terms.specs.Ascii.{Bytes}
use Rattle.terms.specs.Words.{Each, Between}
use Rattle.line.specs.Content.{Field}
use Rattle.law.specs.Tables.{total}
use Rattle.counts.specs.declared.Counts.{Counts}
use Rattle.rows.specs.declared.FileRow.{FileRow}
use Rattle.grammar.specs.Network.{largest}
use Rattle.grammar.specs.Tables.{SegmentRow, ZoneRow, Tables}
use Rattle.packed_law.specs.Packed.{Slot}
use Rattle.unpackings.proofs.Cutting.{Kind}
use Rattle.unpackings.proofs.Rows.{at, lane-back, spot_back, point-back}
use Rattle.row_network.specs.Consistent.{ZoneRowRight, SpotRowRight, Running, zone_span, FirstSpots, SpotsRunning}
use Rattle.packed_tables.proofs.Names.{TableNames}
use Rattle.packed_tables.proofs.Records.{here, all_here, place_after, records-read}
use Rattle.packed_tables.proofs.Whole.{file-kinds, segment-kinds, lane-kinds, zone-kinds, spot-kinds, point-kinds, rows_told, length-records}
use Rattle.packed_frame.specs.Segments.{segments, segments_told}
use Rattle.packed_frame.specs.Zones.{zones, zones_told}
use Rattle.packed_frame.specs.Spots.{all_spots}
use Rattle.packed_frame.specs.File.{file_at_of}
use Rattle.frame_tables.proofs.Fields.{AreNames}
use Rattle.frame_tables.proofs.File.{counts_of, the_row_of, file-so, file-all}
use Rattle.frame_tables.proofs.Segments.{segment_rows, segments-so, segments-all}
use Rattle.frame_tables.proofs.Zones.{zone_rows, zones-so, zones-all}
use Rattle.frame_tables.proofs.Spots.{spot_rows, spots_so, spots-all}
use Rattle.frame_tables.proofs.Told.{items, segments-at, lanes_at, zones-at, spots_at, points_at, zones-place, segments-are, lanes-are, zones-are, spots-are, points-are}

-- as many rows as the file's record says
rows-counted : {R : Type 0} (back : List Slot → R) (place k : ℕ) (ks : List Kind) (x : Bytes) (l : List R) → l ≡ map back (records-read place k ks x) → length l ≡ k
rows-counted back place k ks x l e = ap (λ (l : List _). length l) e ∙ length-map (records-read place k ks x) back ∙ length-records place k ks x

module _ (b : Bytes) where
  -- the rows
  abbrev t : Tables Field ℕ
  t = rows_told (drop 5 b)

  -- ## What code does
  -- point: the first point that zones have, as the pass over lanes tells it
  pub record Passes (c : Counts) (r : FileRow) (point : ℕ) : Type 0 where
    pub file : file_at_of b ≡ Some (c, r, segments-at b)
    pub segments-pass : segments_told (segments c.segments b (segments-at b) 0) ≡ Some (lanes_at b, c.lanes)
    pub zones-pass : zones_told (zones c.zones b (zones-at b) (point, 0)) ≡ Some (spots_at b, c.points, c.spots)
    pub spots-pass : all_spots c.zones b (zones-at b) (spots_at b) ≡ true

  -- these are the places that code goes to
  pub record Places (p q : ℕ) (spots-from : ℕ) : Type 0 where
    pub segments : p ≡ segments-at b
    pub lanes : q ≡ lanes_at b
    pub spots : spots-from ≡ spots_at b

  pub placed : (c : Counts) (r : FileRow) (point p q s : ℕ) → file_at_of b ≡ Some (c, r, p) → segments_told (segments c.segments b p 0) ≡ Some (q, c.lanes) → zones_told (zones c.zones b (q + 12 * c.lanes) (point, 0)) ≡ Some (s, c.points, c.spots) → all_spots c.zones b (q + 12 * c.lanes) s ≡ true
      → Passes c r point × Places p q s
  placed c r point p q s hf hs hz ho =
      let f = file-so b c r p hf in
      let e = f.counts-told in
      let p₁ = f.place_so in
      let h₁ = subst (λ (x : ℕ). segments_told (segments c.segments b x 0) ≡ Some (q, c.lanes)) p₁ hs in
      let n₁ = segments-so (segments-at b) c.segments b (segments-at b) q c.lanes h₁ in
      let p₂ : q ≡ lanes_at b = n₁.place_so ∙ (λ i. place_after (segments-at b) (e i).segments segment-kinds (drop (segments-at b) b)) in
      let p₃ : q + 12 * c.lanes ≡ zones-at b = (λ i. p₂ i + 12 * (e i).lanes) ∙ sym (zones-place b) in
      let h₂ = subst (λ (x : ℕ). zones_told (zones c.zones b x (point, 0)) ≡ Some (s, c.points, c.spots)) p₃ hz in
      let n₂ = zones-so (zones-at b) c.zones b (zones-at b) point s c.points c.spots h₂ in
      let p₄ : s ≡ spots_at b = n₂.place_so ∙ (λ i. place_after (zones-at b) (e i).zones zone-kinds (drop (zones-at b) b)) in (
        record {
          file = subst (λ (x : ℕ). file_at_of b ≡ Some (c, r, x)) p₁ hf;
          segments-pass = subst (λ (x : ℕ). segments_told (segments c.segments b (segments-at b) 0) ≡ Some (x, c.lanes)) p₂ h₁;
          zones-pass = subst (λ (x : ℕ). zones_told (zones c.zones b (zones-at b) (point, 0)) ≡ Some (x, c.points, c.spots)) p₄ h₂;
          spots-pass = ap₂ (all_spots c.zones b) (sym p₃) (sym p₄) ∙ ho;
        },
        record { segments = p₁; lanes = p₂; spots = p₄ },
      )

  -- ## What it says
  pub record Frame (point : ℕ) : Type 0 where
    pub file-here : here file-kinds (drop 5 b) ≡ true
    pub segments-here : all_here (at 0 (items b)) segment-kinds (drop (segments-at b) b) ≡ true
    pub zones_here : all_here (at 2 (items b)) zone-kinds (drop (zones-at b) b) ≡ true
    pub spots-here : all_here (at 3 (items b)) spot-kinds (drop (spots_at b) b) ≡ true
    pub names : TableNames (rows_told (drop 5 b))
    pub segments-right : Each (λ r. Between 1 largest r.lanes) (rows_told (drop 5 b)).segments
    pub zones-right : Each ZoneRowRight (rows_told (drop 5 b)).zones
    pub spots_right : Each SpotRowRight (rows_told (drop 5 b)).spots
    pub segments_running : Running (λ r. r.first_lane) (λ r. r.lanes) 0 (rows_told (drop 5 b)).segments
    pub zones_running : Running (λ r. r.first_point_of) zone_span point (rows_told (drop 5 b)).zones
    pub first_spots : FirstSpots 0 (rows_told (drop 5 b)).zones
    pub spots_running : SpotsRunning point (rows_told (drop 5 b)).zones (rows_told (drop 5 b)).spots
    pub lanes_count : total (λ r. r.lanes) (rows_told (drop 5 b)).segments ≡ length (rows_told (drop 5 b)).lanes
    pub spots_count : total (λ r. r.spots) (rows_told (drop 5 b)).zones ≡ length (rows_told (drop 5 b)).spots
    pub points_count : point + total zone_span (rows_told (drop 5 b)).zones ≡ length (rows_told (drop 5 b)).points

  lanes-long : length t.lanes ≡ at 1 (items b)
  lanes-long = rows-counted lane-back (lanes_at b) (at 1 (items b)) lane-kinds (drop (lanes_at b) b) t.lanes (lanes-are b)

  spots-long : length t.spots ≡ at 3 (items b)
  spots-long = rows-counted spot_back (spots_at b) (at 3 (items b)) spot-kinds (drop (spots_at b) b) t.spots (spots-are b)

  points-long : length t.points ≡ at 4 (items b)
  points-long = rows-counted point-back (points_at b) (at 4 (items b)) point-kinds (drop (points_at b) b) t.points (points-are b)

  -- the rows of the tables
  abbrev ss : List (SegmentRow Field)
  ss = segment_rows (segments-at b) (at 0 (items b)) (drop (segments-at b) b)

  abbrev zs : List (ZoneRow Field)
  zs = zone_rows (zones-at b) (at 2 (items b)) (drop (zones-at b) b)

  -- with as many spots as the file's record says
  spots-with : (n m point : ℕ) → n ≡ m → (all_here n spot-kinds (drop (spots_at b) b) ≡ true) × (Each SpotRowRight (spot_rows (spots_at b) n (drop (spots_at b) b)) × SpotsRunning point zs (spot_rows (spots_at b) n (drop (spots_at b) b)))
      → (all_here m spot-kinds (drop (spots_at b) b) ≡ true) × (Each SpotRowRight (spot_rows (spots_at b) m (drop (spots_at b) b)) × SpotsRunning point zs (spot_rows (spots_at b) m (drop (spots_at b) b)))
  spots-with n m point e x = subst (λ (k : ℕ). (all_here k spot-kinds (drop (spots_at b) b) ≡ true) × (Each SpotRowRight (spot_rows (spots_at b) k (drop (spots_at b) b)) × SpotsRunning point zs (spot_rows (spots_at b) k (drop (spots_at b) b)))) e x

  -- the counts of the file's record
  record Counted (c : Counts) (point : ℕ) : Type 0 where
    segments-pass : segments_told (segments (at 0 (items b)) b (segments-at b) 0) ≡ Some (lanes_at b, at 1 (items b))
    zones-pass : zones_told (zones (at 2 (items b)) b (zones-at b) (point, 0)) ≡ Some (spots_at b, at 4 (items b), at 3 (items b))
    spots-pass : all_spots (at 2 (items b)) b (zones-at b) (spots_at b) ≡ true

  counted : (c : Counts) (r : FileRow) (point : ℕ) → c ≡ counts_of (items b) → Passes c r point → Counted c point
  counted c r point e p = record {
    segments-pass = subst (λ (c : Counts). segments_told (segments c.segments b (segments-at b) 0) ≡ Some (lanes_at b, c.lanes)) e p.segments-pass;
    zones-pass = subst (λ (c : Counts). zones_told (zones c.zones b (zones-at b) (point, 0)) ≡ Some (spots_at b, c.points, c.spots)) e p.zones-pass;
    spots-pass = subst (λ (c : Counts). all_spots c.zones b (zones-at b) (spots_at b) ≡ true) e p.spots-pass;
  }

  -- THE LAW: what passes is so
  pub frame-so : (c : Counts) (r : FileRow) (point : ℕ) → Passes c r point → (c ≡ counts_of (items b)) × ((r ≡ the_row_of (rows_told (drop 5 b)).file) × Frame point)
  frame-so c r point p =
      let f = file-so b c r (segments-at b) p.file in
      let k = counted c r point f.counts-told p in
      let s = segments-so (segments-at b) (at 0 (items b)) b (segments-at b) (lanes_at b) (at 1 (items b)) k.segments-pass in
      let z = zones-so (zones-at b) (at 2 (items b)) b (zones-at b) point (spots_at b) (at 4 (items b)) (at 3 (items b)) k.zones-pass in
      let o = spots_so (zones-at b) (spots_at b) (at 2 (items b)) b (zones-at b) (spots_at b) point z.all_so z.names z.running k.spots-pass in
      let w = spots-with (total (λ r. r.spots) zs) (at 3 (items b)) point (sym z.spots_so) (o.all_so, (o.each, o.running)) in
      let se = sym (segments-are b) in
      let ze = sym (zones-are b) in
      let oe = sym (spots-are b) in (
        f.counts-told,
        (
          f.row_told,
          record {
            file-here = f.here_so;
            segments-here = s.all_so;
            zones_here = z.all_so;
            spots-here = w.0;
            names = record { name = f.name; version = f.version; date = f.date; segments = subst (Each (λ r. AreNames r.name)) se s.names; zones = subst (Each (λ r. AreNames r.name)) ze z.names };
            segments-right = subst (Each (λ r. Between 1 largest r.lanes)) se s.each;
            zones-right = subst (Each ZoneRowRight) ze z.each;
            spots_right = subst (Each SpotRowRight) oe w.1.0;
            segments_running = subst (Running (λ r. r.first_lane) (λ r. r.lanes) 0) se s.running;
            zones_running = subst (Running (λ r. r.first_point_of) zone_span point) ze z.running;
            first_spots = subst (FirstSpots 0) ze z.first_spots;
            spots_running = subst (λ (l : List (ZoneRow Field)). SpotsRunning point l t.spots) ze (subst (SpotsRunning point zs) oe w.1.1);
            lanes_count = ap (total (λ r. r.lanes)) (segments-are b) ∙ sym s.lanes_so ∙ sym lanes-long;
            spots_count = ap (total (λ r. r.spots)) (zones-are b) ∙ sym z.spots_so ∙ sym spots-long;
            points_count = ap (λ (l : List (ZoneRow Field)). point + total zone_span l) (zones-are b) ∙ sym z.points_so ∙ sym points-long;
          },
        ),
      )

  -- and all that is so passes
  pub frame-all : (point : ℕ) → Frame point → Passes (counts_of (items b)) (the_row_of (rows_told (drop 5 b)).file) point
  frame-all point f =
      let se = segments-are b in
      let ze = zones-are b in
      let oe = spots-are b in
      let names = subst (Each (λ r. AreNames r.name)) ze f.names.zones in
      let running = subst (Running (λ r. r.first_point_of) zone_span point) ze f.zones_running in
      let lanes : total (λ r. r.lanes) ss ≡ at 1 (items b) = ap (total (λ r. r.lanes)) (sym se) ∙ f.lanes_count ∙ lanes-long in
      let spots : total (λ r. r.spots) zs ≡ at 3 (items b) = ap (total (λ r. r.spots)) (sym ze) ∙ f.spots_count ∙ spots-long in
      let points : point + total zone_span zs ≡ at 4 (items b) = ap (λ (l : List (ZoneRow Field)). point + total zone_span l) (sym ze) ∙ f.points_count ∙ points-long in
      let w = spots-with (at 3 (items b)) (total (λ r. r.spots) zs) point (sym spots) (f.spots-here, (subst (Each SpotRowRight) oe f.spots_right, subst (SpotsRunning point zs) oe (subst (λ (l : List (ZoneRow Field)). SpotsRunning point l t.spots) ze f.spots_running))) in
      record {
        file = file-all b f.file-here f.names.name f.names.version;
        segments-pass = segments-all (segments-at b) (at 0 (items b)) b (segments-at b) f.segments-here (subst (Each (λ r. Between 1 largest r.lanes)) se f.segments-right) (subst (Running (λ r. r.first_lane) (λ r. r.lanes) 0) se f.segments_running) (subst (Each (λ r. AreNames r.name)) se f.names.segments)
            ∙ ap ((λ z. Some ((lanes_at b), z))) lanes;
        zones-pass = zones-all (zones-at b) (at 2 (items b)) b (zones-at b) point f.zones_here (subst (Each ZoneRowRight) ze f.zones-right) running (subst (FirstSpots 0) ze f.first_spots) names ∙ (λ i. Some (spots_at b, points i, spots i));
        spots-pass = spots-all (zones-at b) (spots_at b) (at 2 (items b)) b (zones-at b) (spots_at b) point f.zones_here names running (record { all_so = w.0; each = w.1.0; running = w.1.1 });
      }
