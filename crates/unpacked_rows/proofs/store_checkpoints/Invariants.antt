use Rattle.unpacked_rows.specs.Told.{checkpoint_told_of, behind_sized}
use Rattle.unpacked_rows.specs.Stored.{rows_from}
use Rattle.rows.specs.Table.{put_rows}
use Rattle.rows.specs.Strides.{checkpoint_stride}
use Rattle.rows.specs.Columns.{checkpoint_words_of}
use lib.ListN.{length}
use Prim.Native.Nat.{◌-◌}
use mathlib.Core.Path.{◌≡◌}
use Rattle.unpacked_rows.proofs.store_checkpoints.Given as goal

abbrev pub invariant-loop-k : goal.invariant-loop-k
invariant-loop-k l = (length l.checkpoints ≡ length l.initial.checkpoints) × (put_rows checkpoint_stride checkpoint_words_of l.checkpoints l.k (rows_from checkpoint_told_of (behind_sized 8) (l.count - l.k) l.bytes l.at) ≡ put_rows checkpoint_stride checkpoint_words_of l.initial.checkpoints 0 (rows_from checkpoint_told_of (behind_sized 8) l.count l.bytes l.from))

abbrev pub decreases-loop-k : goal.decreases-loop-k
decreases-loop-k l = l.count - l.k
