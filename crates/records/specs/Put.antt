-- Executable: what is put of any tables, whatever they hold, in the order in which the program goes; every contract cites this. That it is the packed form of the network whose rows they hold is `record_tables`. Assumes nothing.
use Rattle.terms.specs.Words.{List, [], ℕ, length, ℤ, Bytes}
use Rattle.std.specs.Prelude.{min, ◌∷◌, ◌++◌, ◌+◌, ◌%◌}
use Rattle.output.specs.Packed.{big_endian}
use Rattle.packed_law.specs.Packed.{unsigned, this_version}
use Rattle.rows.specs.declared.Stretch.{Stretch}
use Rattle.rows.specs.declared.FileRow.{FileRow}
use Rattle.rows.specs.declared.SegmentRow.{SegmentRow}
use Rattle.rows.specs.declared.LaneRow.{LaneRow}
use Rattle.rows.specs.declared.ZoneRow.{ZoneRow}
use Rattle.rows.specs.declared.SpotRow.{SpotRow}
use Rattle.rows.specs.declared.PointRow.{PointRow}
use Rattle.rows.specs.declared.CheckpointRow.{CheckpointRow}
use Rattle.rows.specs.declared.StopRow.{StopRow}
use Rattle.rows.specs.declared.ExitRow.{ExitRow}
use Rattle.rows.specs.Read.{segment_at_of, lane_at_of, zone_at_of, spot_at_of, point_at_of, checkpoint_at_of, stop_at, exit_at}
use Rattle.rows.specs.Name.{name_of}
use Rattle.counts.specs.declared.Counts.{Counts}
unfoldable pub use Rattle.map_json.specs.Json.{each}

-- a name is its length and then its bytes
unfoldable pub name_put : Bytes → Bytes
name_put name = big_endian 2 (length name) ++ name

-- ## Records: the length of each, then its fields
unfoldable pub counts_put : Counts → Bytes
counts_put c = big_endian 4 c.segments ++ big_endian 4 c.lanes ++ big_endian 4 c.zones ++ big_endian 4 c.spots ++ big_endian 4 c.points ++ big_endian 4 c.checkpoints ++ big_endian 4 c.stops ++ big_endian 4 c.exits

unfoldable pub file_put : Bytes → Counts → FileRow → Bytes
file_put text c file =
    big_endian 2 (36 + length (name_of text file.name) % 65536 + length (name_of text file.version) % 65536)
    ++ counts_put c ++ name_put (name_of text file.name) ++ name_put (name_of text file.version)

unfoldable pub segment_put : Bytes → SegmentRow → Bytes
segment_put text row = big_endian 2 (8 + length (name_of text row.name) % 65536) ++ big_endian 4 row.first_lane ++ big_endian 2 row.lanes ++ name_put (name_of text row.name)

unfoldable pub lane_put : LaneRow → Bytes
lane_put row = big_endian 2 10 ++ big_endian 4 row.first_point ++ big_endian 2 row.points ++ big_endian 2 row.width.0 ++ (row.left ∷ []) ++ (row.right ∷ [])

unfoldable pub zone_put : Bytes → ZoneRow → Bytes
zone_put text row = big_endian 2 (14 + length (name_of text row.name) % 65536) ++ big_endian 4 row.first_point ++ big_endian 2 row.points ++ big_endian 4 row.first_spot ++ big_endian 2 row.spots ++ name_put (name_of text row.name)

unfoldable pub spot_put : SpotRow → Bytes
spot_put row = big_endian 2 6 ++ big_endian 4 row.first_point ++ big_endian 2 row.width.0

unfoldable pub point_put : PointRow → Bytes
point_put row = big_endian 2 8 ++ big_endian 4 (unsigned row.latitude) ++ big_endian 4 (unsigned row.longitude)

unfoldable pub checkpoint_put : CheckpointRow → Bytes
checkpoint_put row = big_endian 2 6 ++ big_endian 2 row.number.0 ++ big_endian 4 row.point

unfoldable pub stop_put : StopRow → Bytes
stop_put row = big_endian 2 4 ++ big_endian 4 row.point

unfoldable pub exit_put : ExitRow → Bytes
exit_put row = big_endian 2 8 ++ big_endian 4 row.point ++ big_endian 4 row.entry

-- ## Tables: the record of each row
unfoldable pub segment_from : Bytes → List ℕ → ℕ → Bytes
segment_from text segments k = segment_put text (segment_at_of segments k)

unfoldable pub segments_put : Bytes → List ℕ → ℕ → Bytes
segments_put text segments count = each (segment_from text segments) 0 count

unfoldable pub lane_from : List ℕ → ℕ → Bytes
lane_from lanes k = lane_put (lane_at_of lanes k)

unfoldable pub lanes_put : List ℕ → ℕ → Bytes
lanes_put lanes count = each (lane_from lanes) 0 count

unfoldable pub zone_from : Bytes → List ℕ → ℕ → Bytes
zone_from text zones k = zone_put text (zone_at_of zones k)

unfoldable pub zones_put : Bytes → List ℕ → ℕ → Bytes
zones_put text zones count = each (zone_from text zones) 0 count

unfoldable pub spot_from : List ℕ → ℕ → Bytes
spot_from spots k = spot_put (spot_at_of spots k)

unfoldable pub spots_put : List ℕ → ℕ → Bytes
spots_put spots count = each (spot_from spots) 0 count

unfoldable pub point_from : List ℤ → ℕ → Bytes
point_from points k = point_put (point_at_of points k)

unfoldable pub points_put : List ℤ → ℕ → Bytes
points_put points count = each (point_from points) 0 count

unfoldable pub checkpoint_from : List ℕ → ℕ → Bytes
checkpoint_from checkpoints k = checkpoint_put (checkpoint_at_of checkpoints k)

unfoldable pub checkpoints_put : List ℕ → ℕ → Bytes
checkpoints_put checkpoints count = each (checkpoint_from checkpoints) 0 count

unfoldable pub stop_from : List ℕ → ℕ → Bytes
stop_from stops k = stop_put (stop_at stops k)

unfoldable pub stops_put : List ℕ → ℕ → Bytes
stops_put stops count = each (stop_from stops) 0 count

unfoldable pub exit_from : List ℕ → ℕ → Bytes
exit_from exits k = exit_put (exit_at exits k)

unfoldable pub exits_put : List ℕ → ℕ → Bytes
exits_put exits count = each (exit_from exits) 0 count

-- ## All of them, and the form
unfoldable pub all_put : Bytes → (segments lanes zones spots : List ℕ) → (points : List ℤ) → (checkpoints stops exits : List ℕ) → Counts → FileRow → Bytes
all_put text segments lanes zones spots points checkpoints stops exits c file =
    file_put text c file ++ segments_put text segments c.segments ++ lanes_put lanes c.lanes ++ zones_put text zones c.zones ++ spots_put spots c.spots ++ points_put points c.points ++ checkpoints_put checkpoints c.checkpoints ++ stops_put stops c.stops ++ exits_put exits c.exits

-- the length of all that follows is counted by puts, which stop at 16,777,216: then nothing is written
unfoldable pub form_put : Bytes → (segments lanes zones spots : List ℕ) → (points : List ℤ) → (checkpoints stops exits : List ℕ) → Counts → FileRow → Bytes
form_put text segments lanes zones spots points checkpoints stops exits c file =
    (this_version ∷ []) ++ big_endian 4 (min (length (all_put text segments lanes zones spots points checkpoints stops exits c file)) 16777216) ++ all_put text segments lanes zones spots points checkpoints stops exits c file
