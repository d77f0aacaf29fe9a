-- Executable: records of spots, each first point where its zone has it. Assumes nothing.
use Rattle.std.specs.Prelude.{◌&&◌, ◌||◌, ◌+◌, ◌*◌}
use Rattle.terms.specs.Words.{Bool, false, ℕ, leb, eqb, drop, Bytes, pick}
use Rattle.packed_rows.specs.Fixed.{record_here}
use Rattle.packed_rows.specs.Points.{four_at_of}
use Rattle.packed_frame.specs.Names.{two_at, named_end}
use Rattle.packed_frame.specs.Named.{every}

-- 01: "`spot_width` > 0"; "A missing width is 65,535"
abbrev pub spot_right : (point begin width : ℕ) → Bool
spot_right point begin width = eqb begin point && ((leb 1 width && leb width 32768) || eqb width 65535)

unfoldable pub spot-at : Bytes → (at point : ℕ) → Bool
spot-at b at point = pick (record_here 6 (drop at b)) (spot_right point (four_at_of b (at + 2)) (two_at b (at + 6))) false

-- s: the place of the next record, and its point
abbrev pub spot_here : Bytes → ℕ × ℕ → Bool
spot_here b s = spot-at b s.0 s.1

abbrev pub spot_next : Bytes → ℕ × ℕ → ℕ × ℕ
spot_next b s = (s.0 + 8, s.1 + 2)

-- so many spots from this place on, whose points stand one behind the other from this point on
abbrev pub spots_right : ℕ → Bytes → (at point : ℕ) → Bool
spots_right k b at point = every spot_here spot_next k b (at, point)

-- those of the zone that stands at `zone`
unfoldable pub zone_spots : Bytes → (zone at : ℕ) → Bool
zone_spots b zone at = pick (eqb (named_end 12 b zone) 0) false (spots_right (two_at b (zone + 12)) b at (four_at_of b (zone + 2) + two_at b (zone + 6)))

-- s: the place of the next zone, and that of its first spot
abbrev pub zone_here : Bytes → ℕ × ℕ → Bool
zone_here b s = zone_spots b s.0 s.1

abbrev pub zone_behind : Bytes → ℕ × ℕ → ℕ × ℕ
zone_behind b s = (named_end 12 b s.0, s.1 + 8 * two_at b (s.0 + 12))

-- those of so many zones
abbrev pub all_spots : ℕ → Bytes → (zone at : ℕ) → Bool
all_spots k b zone at = every zone_here zone_behind k b (zone, at)
