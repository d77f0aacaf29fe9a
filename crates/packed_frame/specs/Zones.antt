-- Executable: records of zones, their numbers in range, each first point and first spot the sum so far. Assumes nothing.
use Rattle.std.specs.Prelude.{◌&&◌, ◌||◌, ◌+◌, Some, None}
use Rattle.terms.specs.Words.{Option, none, some, Bool, not, ℕ, leb, eqb, Bytes, pick}
use Rattle.packed_rows.specs.Points.{four_at_of}
use Rattle.packed_frame.specs.Names.{two_at, named_end}
use Rattle.packed_frame.specs.Named.{run_fits, walk}
use Rattle.std.specs.Prelude as Rust

-- 01: "first spot (0 without spots)"
abbrev pub spot_fits_of : (spot begin spots : ℕ) → Bool
spot_fits_of spot begin spots = (eqb spots 0 && eqb begin 0) || (not (eqb spots 0) && eqb begin spot)

abbrev pub spots_fit_of : (spot begin spots : ℕ) → Bool
spots_fit_of spot begin spots = leb spots 32768 && spot_fits_of spot begin spots

-- what is known: the points and the spots before it
unfoldable pub zone_end_of : Bytes → ℕ → ℕ × ℕ → ℕ
zone_end_of b at s = pick (run_fits s.0 (four_at_of b (at + 2)) (two_at b (at + 6))) (pick (spots_fit_of s.1 (four_at_of b (at + 8)) (two_at b (at + 12))) (named_end 12 b at) 0) 0

-- two points for each spot
abbrev pub zone_next : Bytes → ℕ → ℕ × ℕ → ℕ × ℕ
zone_next b at s = (s.0 + (two_at b (at + 6) + (two_at b (at + 12) + two_at b (at + 12))), s.1 + two_at b (at + 12))

abbrev pub zones_told : Option (ℕ × (ℕ × ℕ)) → Rust.Option (ℕ × ℕ × ℕ)
zones_told none = None
zones_told (some x) = Some (x.0, x.1.0, x.1.1)

-- so many zones from this place on
abbrev pub zones : ℕ → Bytes → ℕ → ℕ × ℕ → Option (ℕ × (ℕ × ℕ))
zones = walk zone_end_of zone_next
