use Rattle.unpacked_rows.specs.Told.{lane_told_of, behind_sized}
use Rattle.unpacked_rows.specs.Stored.{rows_from}
use Rattle.rows.specs.Table.{put_rows}
use Rattle.rows.specs.Strides.{lane_stride}
use Rattle.rows.specs.Columns.{lane_words_of}
use lib.ListN.{length}
use Prim.Native.Nat.{◌-◌}
use mathlib.Core.Path.{◌≡◌}
use Rattle.unpacked_rows.proofs.store_lanes.Given as goal

abbrev pub invariant-loop-k : goal.invariant-loop-k
invariant-loop-k l = (length l.lanes ≡ length l.initial.lanes) × (put_rows lane_stride lane_words_of l.lanes l.k (rows_from lane_told_of (behind_sized 12) (l.count - l.k) l.bytes l.at) ≡ put_rows lane_stride lane_words_of l.initial.lanes 0 (rows_from lane_told_of (behind_sized 12) l.count l.bytes l.from))

abbrev pub decreases-loop-k : goal.decreases-loop-k
decreases-loop-k l = l.count - l.k
