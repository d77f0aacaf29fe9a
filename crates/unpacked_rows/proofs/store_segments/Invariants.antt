use Rattle.unpacked_rows.specs.Told.{segment_told_of, behind_segment_of}
use Rattle.unpacked_rows.specs.Stored.{rows_from}
use Rattle.rows.specs.Table.{put_rows}
use Rattle.rows.specs.Strides.{segment_stride}
use Rattle.rows.specs.Columns.{segment_words_of}
use lib.ListN.{length}
use Prim.Native.Nat.{◌-◌}
use mathlib.Core.Path.{◌≡◌}
use Rattle.unpacked_rows.proofs.store_segments.Given as goal

abbrev pub invariant-loop-k : goal.invariant-loop-k
invariant-loop-k l = (length l.segments ≡ length l.initial.segments) × (put_rows segment_stride segment_words_of l.segments l.k (rows_from segment_told_of behind_segment_of (l.count - l.k) l.bytes l.at) ≡ put_rows segment_stride segment_words_of l.initial.segments 0 (rows_from segment_told_of behind_segment_of l.count l.bytes l.from))

abbrev pub decreases-loop-k : goal.decreases-loop-k
decreases-loop-k l = l.count - l.k
