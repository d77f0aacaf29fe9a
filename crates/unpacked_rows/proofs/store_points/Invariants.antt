use Rattle.unpacked_rows.specs.Told.{point_told_of, behind_sized}
use Rattle.unpacked_rows.specs.Stored.{rows_from}
use Rattle.rows.specs.Table.{put_rows}
use Rattle.rows.specs.Strides.{point_stride}
use Rattle.rows.specs.Columns.{point_words_of}
use lib.ListN.{length}
use Prim.Native.Nat.{◌-◌}
use mathlib.Core.Path.{◌≡◌}
use Rattle.unpacked_rows.proofs.store_points.Given as goal

abbrev pub invariant-loop-k : goal.invariant-loop-k
invariant-loop-k l = (length l.points ≡ length l.initial.points) × (put_rows point_stride point_words_of l.points l.k (rows_from point_told_of (behind_sized 10) (l.count - l.k) l.bytes l.at) ≡ put_rows point_stride point_words_of l.initial.points 0 (rows_from point_told_of (behind_sized 10) l.count l.bytes l.from))

abbrev pub decreases-loop-k : goal.decreases-loop-k
decreases-loop-k l = l.count - l.k
