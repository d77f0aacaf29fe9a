-- Executable: whether bytes, behind version and length, are some network's packed form, and where its tables stand. Each pass begins where the one before it ended. Assumes nothing.
use Rattle.std.specs.Prelude.{◌&&◌, ◌+◌, ◌*◌, Some, None, Option}
use Rattle.terms.specs.Words.{[], Bool, false, ℕ, leb, eqb, length, drop, Bytes, pick}
use Rattle.counts.specs.declared.Counts.{Counts}
use Rattle.rows.specs.declared.FileRow.{FileRow}
use Rattle.room.specs.Room.{fitted}
use Rattle.packed_rows.specs.Fixed.{records_here}
use Rattle.packed_rows.specs.Points.{points_right}
use Rattle.packed_rows.specs.Lanes.{lanes_right}
use Rattle.packed_frame.specs.Segments.{segments, segments_told}
use Rattle.packed_frame.specs.Zones.{zones, zones_told}
use Rattle.packed_frame.specs.Spots.{all_spots}
use Rattle.packed_frame.specs.File.{file_at_of}
use Rattle.packed_parts.specs.declared.Table.{Table}
use Rattle.packed_parts.specs.Numbers.{numbers_right}
use Rattle.packed_parts.specs.Entries.{exits_right}
use Rattle.packed_parts.specs.Parts.{cell_at, last_end, parts_right}
use Rattle.unpacked_rows.specs.declared.Places.{Places}

-- ## Places
-- behind so many records of one size
abbrev pub behind : (at size count : ℕ) → ℕ
behind at size count = fitted at + size * count

abbrev pub points_from : Counts → ℕ → ℕ
points_from c spots = behind spots 8 c.spots

abbrev pub checkpoints_from : Counts → ℕ → ℕ
checkpoints_from c spots = behind (points_from c spots) 10 c.points

abbrev pub stops_from : Counts → ℕ → ℕ
stops_from c spots = behind (checkpoints_from c spots) 8 c.checkpoints

abbrev pub exits_from : Counts → ℕ → ℕ
exits_from c spots = behind (stops_from c spots) 6 c.stops

-- all of them, by those that stand behind records with names
abbrev pub places_of : Counts → (segments lanes spots : ℕ) → Places
places_of c segments lanes spots = record { segments = segments; lanes = lanes; zones = behind lanes 12 c.lanes; spots = spots; points = points_from c spots; checkpoints = checkpoints_from c spots; stops = stops_from c spots; exits = exits_from c spots }

abbrev pub table_at : (from count : ℕ) → Table
table_at from count = record { from = fitted from; count = count }

-- ## Tests
-- 01: "`num_segments` M > 0; `num_zones` N ≥ 0, with M + N ≤ 32,768"
abbrev pub few : Counts → Bool
few c = leb 1 c.segments && leb (c.segments + c.zones) 32768

unfoldable pub tables_right : Bytes → Counts → Places → Bool
tables_right b c p =
    pick (all_spots c.zones b p.zones p.spots)
    (pick (points_right c.points b p.points) (pick (numbers_right c.checkpoints b p.checkpoints []) (records_here c.stops 4 (drop p.stops b)) false) false)
    false

-- point: the first zone point
unfoldable pub linked : Bytes → Counts → Places → (point : ℕ) → Bool
linked b c p point =
    pick (exits_right c.exits b p.exits (cell_at b (fitted p.spots) 8 2) c.spots c.points point)
    (parts_right b (table_at p.lanes c.lanes) (table_at p.zones c.zones) (table_at p.checkpoints c.checkpoints) (table_at p.stops c.stops) (table_at p.exits c.exits) point)
    false

-- ## One pass behind the other
-- nothing stands behind the last exit
unfoldable pub with_places_of : Bytes → Counts → FileRow → Places → (point : ℕ) → Option (Counts × FileRow × Places)
with_places_of b c r p point = pick (eqb (behind p.exits 10 c.exits) (length b)) (pick (tables_right b c p) (pick (linked b c p point) (Some (c, r, p)) None) None) None

abbrev pub by_zones_of : Bytes → Counts → FileRow → (segments lanes point : ℕ) → Option (ℕ × ℕ × ℕ) → Option (Counts × FileRow × Places)
by_zones_of b c r segments lanes point None = None
by_zones_of b c r segments lanes point (Some (spots, points, count)) = pick (eqb points c.points) (pick (eqb count c.spots) (with_places_of b c r (places_of c segments lanes spots) point) None) None

abbrev pub point_from : Bytes → Counts → (lanes : ℕ) → ℕ
point_from b c lanes = last_end b (fitted lanes) c.lanes

unfoldable pub with_lanes_of : Bytes → Counts → FileRow → (segments lanes : ℕ) → Option (Counts × FileRow × Places)
with_lanes_of b c r segments lanes = pick (lanes_right c.lanes b lanes 0) (by_zones_of b c r segments lanes (point_from b c lanes) (zones_told (zones c.zones b (behind lanes 12 c.lanes) (point_from b c lanes, 0)))) None

abbrev pub by_segments_of : Bytes → Counts → FileRow → (place : ℕ) → Option (ℕ × ℕ) → Option (Counts × FileRow × Places)
by_segments_of b c r place None = None
by_segments_of b c r place (Some (lanes, count)) = pick (eqb count c.lanes) (with_lanes_of b c r place lanes) None

abbrev pub by_file_of : Bytes → Option (Counts × FileRow × ℕ) → Option (Counts × FileRow × Places)
by_file_of b None = None
by_file_of b (Some (c, r, place)) = pick (few c) (by_segments_of b c r place (segments_told (segments c.segments b place 0))) None

unfoldable pub judgement : Bytes → Option (Counts × FileRow × Places)
judgement b = by_file_of b (file_at_of b)
