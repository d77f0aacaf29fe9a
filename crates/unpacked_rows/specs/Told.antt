-- Executable: the row that the record at a place tells, table by table (docs/PACKED.md), and where the next one stands. A number that is not in the bytes is 0. Assumes nothing.
use Rattle.terms.specs.Words.{ℕ, zero, suc, leb, ltb, length, ℤ, pos, Bytes, pick}
use Rattle.std.specs.Prelude.{negsuc, ◌+◌, ◌-◌, ◌/◌, ◌%◌}
use Rattle.units.specs.Made.{feet, checkpoint_number_of}
use Rattle.rows.specs.declared.Stretch.{Stretch}
use Rattle.rows.specs.declared.SegmentRow.{SegmentRow}
use Rattle.rows.specs.declared.LaneRow.{LaneRow}
use Rattle.rows.specs.declared.ZoneRow.{ZoneRow}
use Rattle.rows.specs.declared.SpotRow.{SpotRow}
use Rattle.rows.specs.declared.PointRow.{PointRow}
use Rattle.rows.specs.declared.CheckpointRow.{CheckpointRow}
use Rattle.rows.specs.declared.StopRow.{StopRow}
use Rattle.rows.specs.declared.ExitRow.{ExitRow}
use Rattle.rows.specs.Read.{the_stretch_of}
use Rattle.room.specs.Room.{fitted}
use Rattle.packed_rows.specs.Points.{four_at_of}

-- ## Fields
-- two numbers of two bytes each that are read as one of four: the first, the second
abbrev pub upper : ℕ → ℕ
upper w = w / 65536

abbrev pub lower : ℕ → ℕ
lower w = w % 65536

-- a coordinate: below 0 it is told as so much less than 2 to the 32nd
abbrev pub signed : ℕ → ℤ
signed w = pick (ltb w 2147483648) (pos w) (negsuc (4294967295 - w))

-- 01: "A name is its start and length in the lent text; a missing name is 0, 0."
abbrev pub name_told : (place size : ℕ) → Stretch
name_told place zero = the_stretch_of 0 0
name_told place (suc k) = the_stretch_of place (suc k)

-- ## Rows: the record's length stands first, in two bytes
unfoldable pub segment_told_of : Bytes → ℕ → SegmentRow
segment_told_of b at = record { first_lane = four_at_of b (at + 2); lanes = upper (four_at_of b (at + 6)); name = name_told (fitted (at + 10)) (lower (four_at_of b (at + 6))) }

unfoldable pub lane_told_of : Bytes → ℕ → LaneRow
lane_told_of b at = record { first_point = four_at_of b (at + 2); points = upper (four_at_of b (at + 6)); width = feet (lower (four_at_of b (at + 6))); left = four_at_of b (at + 8) / 256 % 256; right = four_at_of b (at + 8) % 256 }

unfoldable pub zone_told_of : Bytes → ℕ → ZoneRow
zone_told_of b at = record { first_point = four_at_of b (at + 2); points = upper (four_at_of b (at + 6)); first_spot = four_at_of b (at + 8); spots = upper (four_at_of b (at + 12)); name = name_told (fitted (at + 16)) (lower (four_at_of b (at + 12))) }

unfoldable pub spot_told_of : Bytes → ℕ → SpotRow
spot_told_of b at = record { first_point = four_at_of b (at + 2); width = feet (lower (four_at_of b (at + 4))) }

unfoldable pub point_told_of : Bytes → ℕ → PointRow
point_told_of b at = record { latitude = signed (four_at_of b (at + 2)); longitude = signed (four_at_of b (at + 6)) }

unfoldable pub checkpoint_told_of : Bytes → ℕ → CheckpointRow
checkpoint_told_of b at = record { number = checkpoint_number_of (upper (four_at_of b (at + 2))); point = four_at_of b (at + 4) }

unfoldable pub stop_told_of : Bytes → ℕ → StopRow
stop_told_of b at = record { point = four_at_of b (at + 2) }

unfoldable pub exit_told_of : Bytes → ℕ → ExitRow
exit_told_of b at = record { point = four_at_of b (at + 2); entry = four_at_of b (at + 6) }

-- ## Places
-- so many bytes on, where these are there; else as it was
unfoldable pub behind : (long at size : ℕ) → ℕ
behind long at size = pick (leb (at + size) long) (at + size) at

-- behind a record of this size, its length with it
abbrev pub behind_sized : ℕ → Bytes → ℕ → ℕ
behind_sized size b at = behind (length b) at size

-- behind a segment's or a zone's record, whose name has the size that stands before it
unfoldable pub behind_segment_of : Bytes → ℕ → ℕ
behind_segment_of b at = behind (length b) at (10 + lower (four_at_of b (at + 6)))

unfoldable pub behind_zone_of : Bytes → ℕ → ℕ
behind_zone_of b at = behind (length b) at (16 + lower (four_at_of b (at + 12)))
