use Rattle.unpacked_rows.specs.Told.{stop_told_of, behind_sized}
use Rattle.unpacked_rows.specs.Stored.{rows_from}
use Rattle.rows.specs.Table.{put_rows}
use Rattle.rows.specs.Strides.{stop_stride}
use Rattle.rows.specs.Columns.{stop_words_of}
use lib.ListN.{length}
use Prim.Native.Nat.{◌-◌}
use mathlib.Core.Path.{◌≡◌}
use Rattle.unpacked_rows.proofs.store_stops.Given as goal

abbrev pub invariant-loop-k : goal.invariant-loop-k
invariant-loop-k l = (length l.stops ≡ length l.initial.stops) × (put_rows stop_stride stop_words_of l.stops l.k (rows_from stop_told_of (behind_sized 6) (l.count - l.k) l.bytes l.at) ≡ put_rows stop_stride stop_words_of l.initial.stops 0 (rows_from stop_told_of (behind_sized 6) l.count l.bytes l.from))

abbrev pub decreases-loop-k : goal.decreases-loop-k
decreases-loop-k l = l.count - l.k
