use Rattle.unpacked_rows.specs.Told.{spot_told_of, behind_sized}
use Rattle.unpacked_rows.specs.Stored.{rows_from}
use Rattle.rows.specs.Table.{put_rows}
use Rattle.rows.specs.Strides.{spot_stride}
use Rattle.rows.specs.Columns.{spot_words_of}
use lib.ListN.{length}
use Prim.Native.Nat.{◌-◌}
use mathlib.Core.Path.{◌≡◌}
use Rattle.unpacked_rows.proofs.store_spots.Given as goal

abbrev pub invariant-loop-k : goal.invariant-loop-k
invariant-loop-k l = (length l.spots ≡ length l.initial.spots) × (put_rows spot_stride spot_words_of l.spots l.k (rows_from spot_told_of (behind_sized 8) (l.count - l.k) l.bytes l.at) ≡ put_rows spot_stride spot_words_of l.initial.spots 0 (rows_from spot_told_of (behind_sized 8) l.count l.bytes l.from))

abbrev pub decreases-loop-k : goal.decreases-loop-k
decreases-loop-k l = l.count - l.k
