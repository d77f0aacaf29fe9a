use Rattle.unpacked_rows.specs.Told.{zone_told_of, behind_zone_of}
use Rattle.unpacked_rows.specs.Stored.{rows_from}
use Rattle.rows.specs.Table.{put_rows}
use Rattle.rows.specs.Strides.{zone_stride}
use Rattle.rows.specs.Columns.{zone_words_of}
use lib.ListN.{length}
use Prim.Native.Nat.{◌-◌}
use mathlib.Core.Path.{◌≡◌}
use Rattle.unpacked_rows.proofs.store_zones.Given as goal

abbrev pub invariant-loop-k : goal.invariant-loop-k
invariant-loop-k l = (length l.zones ≡ length l.initial.zones) × (put_rows zone_stride zone_words_of l.zones l.k (rows_from zone_told_of behind_zone_of (l.count - l.k) l.bytes l.at) ≡ put_rows zone_stride zone_words_of l.initial.zones 0 (rows_from zone_told_of behind_zone_of l.count l.bytes l.from))

abbrev pub decreases-loop-k : goal.decreases-loop-k
decreases-loop-k l = l.count - l.k
