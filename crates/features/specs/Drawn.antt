-- Executable: what is put of any tables, whatever they hold, in the order in which the program goes; every contract cites this. That it is the map of the network whose rows they hold is `map_tables`. Assumes nothing.
use Rattle.terms.specs.Words.{List, [], ℕ, zero, suc, eqb, ltb, leb, ℤ, Bytes, ascii, pick}
use Rattle.std.specs.Prelude.{min, ◌++◌, ◌+◌, ◌-◌}
use Rattle.number.specs.House.{house_integer, house_pair, house_triple}
use Rattle.output.specs.Pen.{Pen, put}
use Rattle.rows.specs.declared.Stretch.{Stretch}
use Rattle.rows.specs.declared.SegmentRow.{SegmentRow}
use Rattle.rows.specs.declared.LaneRow.{LaneRow}
use Rattle.rows.specs.declared.ZoneRow.{ZoneRow}
use Rattle.rows.specs.declared.CheckpointRow.{CheckpointRow}
use Rattle.rows.specs.Read.{segment_at_of, lane_at_of, zone_at_of, spot_at_of, checkpoint_at_of}
use Rattle.rows.specs.Name.{name_of}
use Rattle.counts.specs.declared.Counts.{Counts}
unfoldable pub use Rattle.map_json.specs.Json.{each, escaped, escapes, quoted, comma_from, position_at, position_from, positions, position_back, ring}

-- ## Loops
-- what each of k rows, from row i on, does
unfoldable pub steps : {S : Type 0} → (ℕ → S → S) → (i k : ℕ) → S → S
steps f i zero s = s
steps f i (suc k) s = steps f (suc i) k (f i s)

-- ## Geometry
unfoldable pub lane_shape : List ℤ → (first count : ℕ) → Bytes
lane_shape points first count = pick (eqb count 1)
    (ascii "{\"type\":\"Point\",\"coordinates\":" ++ position_at points first ++ ascii "}")
    (ascii "{\"type\":\"LineString\",\"coordinates\":[" ++ positions points first count ++ ascii "]}")

unfoldable pub perimeter_shape : List ℤ → (first count : ℕ) → Bytes
perimeter_shape points first count = pick (ltb count 3) (lane_shape points first count) (ascii "{\"type\":\"Polygon\",\"coordinates\":[[" ++ ring points first count ++ ascii "]]}")

-- ## Features
unfoldable pub named : Bytes → Stretch → Bytes
named text name = pick (eqb name.length 0) (ascii "\"}}") (ascii "\",\"name\":" ++ quoted (name_of text name) ++ ascii "}}")

unfoldable pub lane : Bytes → List ℤ → Stretch → (m n : ℕ) → LaneRow → Bytes
lane text points name m n row = ascii "{\"type\":\"Feature\",\"geometry\":" ++ lane_shape points row.first_point row.points ++ ascii ",\"properties\":{\"kind\":\"lane\",\"id\":\"" ++ house_pair m n ++ named text name

unfoldable pub perimeter : Bytes → List ℤ → (m : ℕ) → ZoneRow → Bytes
perimeter text points m row = ascii ",{\"type\":\"Feature\",\"geometry\":" ++ perimeter_shape points row.first_point row.points ++ ascii ",\"properties\":{\"kind\":\"perimeter\",\"id\":\"" ++ house_pair m 0 ++ named text row.name

abbrev pub behind_one_of : (before k : ℕ) → ℕ
behind_one_of before k = min (before + k + 1) 4294967295

unfoldable pub checkpoint : List ℤ → (m n first : ℕ) → CheckpointRow → Bytes
checkpoint points m n first row = ascii ",{\"type\":\"Feature\",\"geometry\":{\"type\":\"Point\",\"coordinates\":" ++ position_at points row.point ++ ascii "},\"properties\":{\"kind\":\"checkpoint\",\"id\":\"" ++ house_triple m n (behind_one_of 0 (row.point - first)) ++ ascii "\",\"number\":" ++ house_integer row.number.0 ++ ascii "}}"

-- ## Lanes and perimeters
unfoldable pub lane_from : Bytes → (lanes : List ℕ) → List ℤ → (m : ℕ) → SegmentRow → ℕ → Bytes
lane_from text lanes points m row k = comma_from (row.first_lane + k) ++ lane text points row.name m (behind_one_of 0 k) (lane_at_of lanes (row.first_lane + k))

unfoldable pub segment_lanes : Bytes → (lanes : List ℕ) → List ℤ → (m : ℕ) → SegmentRow → Bytes
segment_lanes text lanes points m row = each (lane_from text lanes points m row) 0 row.lanes

unfoldable pub segment_from : Bytes → (segments lanes : List ℕ) → List ℤ → ℕ → Bytes
segment_from text segments lanes points k = segment_lanes text lanes points (behind_one_of 0 k) (segment_at_of segments k)

unfoldable pub all_lanes : Bytes → (segments lanes : List ℕ) → List ℤ → (count : ℕ) → Bytes
all_lanes text segments lanes points count = each (segment_from text segments lanes points) 0 count

unfoldable pub perimeter_from : Bytes → (zones : List ℕ) → List ℤ → (segments : ℕ) → ℕ → Bytes
perimeter_from text zones points segments k = perimeter text points (behind_one_of segments k) (zone_at_of zones k)

unfoldable pub all_perimeters : Bytes → (zones : List ℕ) → List ℤ → (segments count : ℕ) → Bytes
all_perimeters text zones points segments count = each (perimeter_from text zones points segments) 0 count

-- ## Checkpoints
-- the pen, and the next checkpoint row in turn
pub record Walk : Type 0 where
  pub pen : Pen
  pub next : ℕ

abbrev pub walk : Pen → ℕ → Walk
walk p next = record { pen = p; next = next }

-- the first of k rows, from `next` on, that does not stand before this point; the row behind them where there is none
unfoldable pub part_end : (checkpoints : List ℕ) → (behind next k : ℕ) → ℕ
part_end checkpoints behind next zero = next
part_end checkpoints behind next (suc k) = pick (leb behind (checkpoint_at_of checkpoints next).point) next (part_end checkpoints behind (suc next) k)

unfoldable pub checkpoint_from : List ℤ → (checkpoints : List ℕ) → (m n first : ℕ) → ℕ → Bytes
checkpoint_from points checkpoints m n first row = checkpoint points m n first (checkpoint_at_of checkpoints row)

unfoldable pub part_checkpoints : List ℤ → (checkpoints : List ℕ) → (m n first next k : ℕ) → Bytes
part_checkpoints points checkpoints m n first next k = each (checkpoint_from points checkpoints m n first) next k

-- to a row
unfoldable pub walk_to : List ℤ → (checkpoints : List ℕ) → (m n first end : ℕ) → Walk → Walk
walk_to points checkpoints m n first end w = walk (put w.pen (part_checkpoints points checkpoints m n first w.next (end - w.next))) end

-- over part m.n, which has so many points; there are `count` checkpoint rows
unfoldable pub part_walk : List ℤ → (checkpoints : List ℕ) → (count m n first size : ℕ) → Walk → Walk
part_walk points checkpoints count m n first size w = walk_to points checkpoints m n first (part_end checkpoints (first + size) w.next (count - w.next)) w

unfoldable pub lane_walk : (lanes : List ℕ) → List ℤ → (checkpoints : List ℕ) → (count m : ℕ) → SegmentRow → ℕ → Walk → Walk
lane_walk lanes points checkpoints count m row k w = part_walk points checkpoints count m (behind_one_of 0 k) (lane_at_of lanes (row.first_lane + k)).first_point (lane_at_of lanes (row.first_lane + k)).points w

unfoldable pub segment_walk : (segments lanes : List ℕ) → List ℤ → (checkpoints : List ℕ) → (count : ℕ) → ℕ → Walk → Walk
segment_walk segments lanes points checkpoints count k w = steps (lane_walk lanes points checkpoints count (behind_one_of 0 k) (segment_at_of segments k)) 0 (segment_at_of segments k).lanes w

unfoldable pub spot_walk : (spots : List ℕ) → List ℤ → (checkpoints : List ℕ) → (count m : ℕ) → ZoneRow → ℕ → Walk → Walk
spot_walk spots points checkpoints count m row k w = part_walk points checkpoints count m (behind_one_of 0 k) (spot_at_of spots (row.first_spot + k)).first_point 2 w

unfoldable pub zone_walk : (zones spots : List ℕ) → List ℤ → (checkpoints : List ℕ) → (count segments : ℕ) → ℕ → Walk → Walk
zone_walk zones spots points checkpoints count segments k w = steps (spot_walk spots points checkpoints count (behind_one_of segments k) (zone_at_of zones k)) 0 (zone_at_of zones k).spots w

-- all of them, from the first row on
unfoldable pub all_walk : (segments lanes zones spots : List ℕ) → List ℤ → (checkpoints : List ℕ) → Counts → Walk → Walk
all_walk segments lanes zones spots points checkpoints counts w =
    steps (zone_walk zones spots points checkpoints counts.checkpoints counts.segments) 0 counts.zones
    (steps (segment_walk segments lanes points checkpoints counts.checkpoints) 0 counts.segments w)

-- ## The map, put from a pen on
unfoldable pub drawn : Bytes → (segments lanes zones spots : List ℕ) → List ℤ → (checkpoints : List ℕ) → Counts → Pen → Pen
drawn text segments lanes zones spots points checkpoints counts p =
    put (all_walk segments lanes zones spots points checkpoints counts
    (walk (put p (ascii "{\"type\":\"FeatureCollection\",\"features\":[" ++ all_lanes text segments lanes points counts.segments ++ all_perimeters text zones points counts.segments counts.zones)) 0)).pen (ascii "]}")
