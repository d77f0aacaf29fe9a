-- Executable: what is gathered in a walk over an RNDF: what there is so far, and the lent tables; and a row stored in them. Assumes nothing.
use Rattle.std.specs.Prelude.{List, ◌++◌, ℕ, ◌*◌, length, take, drop, leb, ℤ, Some, None, Option}
use Rattle.terms.specs.Words.{pick}
use Rattle.rows.specs.declared.PointRow.{PointRow}
use Rattle.rows.specs.Lay.{put_row_of}
use Rattle.rows.specs.Columns.{segment_words_of, lane_words_of, zone_words_of, spot_words_of, point_words_of, checkpoint_words_of, stop_words_of, exit_words_of}
use Rattle.rows.specs.Strides.{segment_stride, lane_stride, zone_stride, spot_stride, point_stride, checkpoint_stride, stop_stride, exit_stride}
use Rattle.progress.specs.declared.Progress.{Progress}
use Rattle.progress.specs.declared.Row.{Row}
use Rattle.progress.specs.declared.Row.TheVariants as Row
use Rattle.units.specs.declared.CheckpointNumber.{CheckpointNumber}

pub record Memory : Type 0 where
  pub so_far : Progress
  pub segments : List ℕ
  pub lanes : List ℕ
  pub zones : List ℕ
  pub spots : List ℕ
  pub points : List ℤ
  pub checkpoints : List ℕ
  pub stops : List ℕ
  pub exits : List ℕ

abbrev pub memory : Progress → (segments lanes zones spots : List ℕ) → List ℤ → (checkpoints stops exits : List ℕ) → Memory
memory p sg ln zn sp pt ck st ex = record { so_far = p; segments = sg; lanes = ln; zones = zn; spots = sp; points = pt; checkpoints = ck; stops = st; exits = ex }

-- 01: "Each lane fills the point table from its first row on, and touches no row before it."
unfoldable pub store_part : List ℤ → (first within : ℕ) → PointRow → List ℤ
store_part t first within a = pick (leb (first * point_stride) (length t)) (take (first * point_stride) t ++ put_row_of point_stride (drop (first * point_stride) t) within (point_words_of a)) t

-- a checkpoint with the number that its kind made; none where it made none
unfoldable pub store_numbered_of : List ℕ → (row : ℕ) → Option CheckpointNumber → (point : ℕ) → List ℕ
store_numbered_of t row (Some number) point = put_row_of checkpoint_stride t row (checkpoint_words_of (record { number = number; point = point }))
store_numbered_of t row None point = t

unfoldable pub stored : Row → Memory → Memory
stored Row.Nothing m = m
stored (Row.Segment a) m = memory m.so_far (put_row_of segment_stride m.segments m.so_far.segments (segment_words_of a)) m.lanes m.zones m.spots m.points m.checkpoints m.stops m.exits
stored (Row.Lane a) m = memory m.so_far m.segments (put_row_of lane_stride m.lanes m.so_far.lanes (lane_words_of a)) m.zones m.spots m.points m.checkpoints m.stops m.exits
stored (Row.Zone a) m = memory m.so_far m.segments m.lanes (put_row_of zone_stride m.zones m.so_far.zones (zone_words_of a)) m.spots m.points m.checkpoints m.stops m.exits
stored (Row.Spot a) m = memory m.so_far m.segments m.lanes m.zones (put_row_of spot_stride m.spots m.so_far.spots (spot_words_of a)) m.points m.checkpoints m.stops m.exits
stored (Row.Point a) m = memory m.so_far m.segments m.lanes m.zones m.spots (store_part m.points m.so_far.first m.so_far.within a) m.checkpoints m.stops m.exits
stored (Row.Checkpoint read point) m = memory m.so_far m.segments m.lanes m.zones m.spots m.points (store_numbered_of m.checkpoints m.so_far.checkpoints read point) m.stops m.exits
stored (Row.Stop a) m = memory m.so_far m.segments m.lanes m.zones m.spots m.points m.checkpoints (put_row_of stop_stride m.stops m.so_far.stops (stop_words_of a)) m.exits
stored (Row.Exit a) m = memory m.so_far m.segments m.lanes m.zones m.spots m.points m.checkpoints m.stops (put_row_of exit_stride m.exits m.so_far.exits (exit_words_of a))
