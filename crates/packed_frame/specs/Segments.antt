-- Executable: records of segments, their lanes in range, each first lane the sum so far. Assumes nothing.
use Rattle.std.specs.Prelude.{◌+◌, Some, None}
use Rattle.terms.specs.Words.{Option, none, some, ℕ, Bytes, pick}
use Rattle.packed_rows.specs.Points.{four_at_of}
use Rattle.packed_frame.specs.Names.{two_at, named_end}
use Rattle.packed_frame.specs.Named.{run_fits, walk}
use Rattle.std.specs.Prelude as Rust

-- the place behind the segment here; 0 where it is none
unfoldable pub segment_end_of : Bytes → ℕ → ℕ → ℕ
segment_end_of b at sum = pick (run_fits sum (four_at_of b (at + 2)) (two_at b (at + 6))) (named_end 6 b at) 0

abbrev pub segment_next : Bytes → ℕ → ℕ → ℕ
segment_next b at sum = sum + two_at b (at + 6)

abbrev pub segments_told : Option (ℕ × ℕ) → Rust.Option (ℕ × ℕ)
segments_told none = None
segments_told (some x) = Some (x.0, x.1)

-- so many segments from this place on
abbrev pub segments : ℕ → Bytes → ℕ → ℕ → Option (ℕ × ℕ)
segments = walk segment_end_of segment_next
