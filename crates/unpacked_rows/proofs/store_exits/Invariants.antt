use Rattle.unpacked_rows.specs.Told.{exit_told_of, behind_sized}
use Rattle.unpacked_rows.specs.Stored.{rows_from}
use Rattle.rows.specs.Table.{put_rows}
use Rattle.rows.specs.Strides.{exit_stride}
use Rattle.rows.specs.Columns.{exit_words_of}
use lib.ListN.{length}
use Prim.Native.Nat.{◌-◌}
use mathlib.Core.Path.{◌≡◌}
use Rattle.unpacked_rows.proofs.store_exits.Given as goal

abbrev pub invariant-loop-k : goal.invariant-loop-k
invariant-loop-k l = (length l.exits ≡ length l.initial.exits) × (put_rows exit_stride exit_words_of l.exits l.k (rows_from exit_told_of (behind_sized 10) (l.count - l.k) l.bytes l.at) ≡ put_rows exit_stride exit_words_of l.initial.exits 0 (rows_from exit_told_of (behind_sized 10) l.count l.bytes l.from))

abbrev pub decreases-loop-k : goal.decreases-loop-k
decreases-loop-k l = l.count - l.k
