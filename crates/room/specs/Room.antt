-- Executable: the tests of room. Assumes nothing.
use Rattle.std.specs.Prelude.{Bool, false, ℕ, min, leb}
use Rattle.terms.specs.Words.{pick}
use Rattle.rows.specs.Lay.{rows_of}
use Rattle.rows.specs.Strides.{segment_stride, lane_stride, zone_stride, spot_stride, point_stride, checkpoint_stride, stop_stride, exit_stride}
use Rattle.counts.specs.declared.Counts.{Counts}

-- so many rows fit into a table of so many words
abbrev pub fits : (rows words stride : ℕ) → Bool
fits rows words stride = leb rows (rows_of words stride)

-- a number that does not fit into 32 bits is the largest that does
abbrev pub fitted : ℕ → ℕ
fitted n = min n 4294967295

-- ## The rows of an RNDF, in tables of so many words
abbrev pub all_four : Bool → Bool → Bool → Bool → Bool
all_four a b c d = pick a (pick b (pick c d false) false) false

unfoldable pub parts_fit_of : Counts → (segments lanes zones spots : ℕ) → Bool
parts_fit_of c sg ln zn sp = all_four (fits c.segments sg segment_stride) (fits c.lanes ln lane_stride) (fits c.zones zn zone_stride) (fits c.spots sp spot_stride)

unfoldable pub marks_fit_of : Counts → (points checkpoints stops exits : ℕ) → Bool
marks_fit_of c pt ck st ex = all_four (fits c.points pt point_stride) (fits c.checkpoints ck checkpoint_stride) (fits c.stops st stop_stride) (fits c.exits ex exit_stride)
