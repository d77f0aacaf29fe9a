-- One statement of the walk: the memory behind it is the one that the program leaves, and no table changes its length. Assumes nothing.
use Rattle.std.specs.Prelude.{Some, None, Option}
use mathlib.Core.Path.{◌≡◌, refl, sym, ap, ap₂, ◌∙◌}
use mathlib.Core.List.{List, ◌++◌}
use mathlib.Core.Bool.{Bool, true, false}
use Prim.Native.Nat.{ℕ, ◌+◌, ◌*◌, ◌≤◌}
use native.Mathlib.Omega.{arith}
use lib.ListN.{length, take, drop, length-append, length-drop}
use lib.Seq.{length-take-le}
use lib.Dec.{leb}
use lib.IntN.{ℤ}
use borrow.Author.Tests.{leb-true}
use Rattle.terms.specs.Words.{pick}
use Rattle.rows.specs.declared.PointRow.{PointRow}
use Rattle.rows.specs.Lay.{put_row_of}
use Rattle.rows.specs.Columns.{segment_words_of, lane_words_of, zone_words_of, spot_words_of, point_words_of, checkpoint_words_of, stop_words_of, exit_words_of}
use Rattle.rows.proofs.Lay.{length-put}
use Rattle.statement.specs.declared.Statement.{Statement}
use Rattle.progress.specs.declared.Progress.{Progress}
use Rattle.progress.specs.declared.Row.{Row}
use Rattle.progress.specs.declared.Row.TheVariants as Row
use Rattle.progress.specs.After.{total, after_of}
use Rattle.progress.specs.Given.{row_of}
use Rattle.progress.proofs.Shown.{grows}
use Rattle.walk.specs.Standing.{Where}
use Rattle.network.specs.Storing.{Memory, memory, store_part, store_numbered_of, stored}
use Rattle.network.specs.Reading.{with_progress, put}
use Rattle.units.specs.declared.CheckpointNumber.{CheckpointNumber}

-- how long each table is
pub record Lengths : Type 0 where
  pub segments : ℕ
  pub lanes : ℕ
  pub zones : ℕ
  pub spots : ℕ
  pub points : ℕ
  pub checkpoints : ℕ
  pub stops : ℕ
  pub exits : ℕ

abbrev pub lengths : Memory → Lengths
lengths m = record {
  segments = length m.segments;
  lanes = length m.lanes;
  zones = length m.zones;
  spots = length m.spots;
  points = length m.points;
  checkpoints = length m.checkpoints;
  stops = length m.stops;
  exits = length m.exits;
}

part-long : (t : List ℤ) (first within : ℕ) (a : PointRow) → length (store_part t first within a) ≡ length t
unfolding store_part
part-long t first within a = go (leb (first * 2) (length t)) refl
  where
    go : (b : Bool) → leb (first * 2) (length t) ≡ b → length (pick b (take (first * 2) t ++ put_row_of 2 (drop (first * 2) t) within (point_words_of a)) t) ≡ length t
    go false e = refl
    go true e =
        let h = leb-true (first * 2) (length t) e in
        let p = length-put 2 (drop (first * 2) t) within (point_words_of a) refl in
        let d = length-drop (first * 2) t in
        let k = length-take-le (first * 2) t h in
        length-append (take (first * 2) t) (put_row_of 2 (drop (first * 2) t) within (point_words_of a)) ∙ omega arith

numbered-long : (t : List ℕ) (row : ℕ) (read : Option CheckpointNumber) (point : ℕ) → length (store_numbered_of t row read point) ≡ length t
unfolding store_numbered_of
numbered-long t row (Some number) point = length-put 2 t row (checkpoint_words_of (record { number = number; point = point })) refl
numbered-long t row None point = refl

pub stored-long : (r : Row) (m : Memory) → lengths (stored r m) ≡ lengths m
unfolding stored
stored-long Row.Nothing m = refl
stored-long (Row.Segment a) m = rw (length-put 4 m.segments m.so_far.segments (segment_words_of a) refl) refl
stored-long (Row.Lane a) m = rw (length-put 5 m.lanes m.so_far.lanes (lane_words_of a) refl) refl
stored-long (Row.Zone a) m = rw (length-put 6 m.zones m.so_far.zones (zone_words_of a) refl) refl
stored-long (Row.Spot a) m = rw (length-put 2 m.spots m.so_far.spots (spot_words_of a) refl) refl
stored-long (Row.Point a) m = rw (part-long m.points m.so_far.first m.so_far.within a) refl
stored-long (Row.Checkpoint read point) m = rw (numbered-long m.checkpoints m.so_far.checkpoints read point) refl
stored-long (Row.Stop a) m = rw (length-put 1 m.stops m.so_far.stops (stop_words_of a) refl) refl
stored-long (Row.Exit a) m = rw (length-put 2 m.exits m.so_far.exits (exit_words_of a) refl) refl

pub put-long : (w : Where) (s : Statement) (m : Memory) → lengths (put w s m) ≡ lengths m
unfolding put
put-long w s m = stored-long (row_of s w.last m.so_far) m

-- what the program leaves behind a statement: its row stored, then counted
pub stepped : (s : Statement) (row : Row) (w : Where) (p : Progress) (m n : Memory) → n ≡ stored row m → row ≡ row_of s w.last m.so_far → p ≡ after_of s m.so_far → with_progress p n ≡ put w s m
unfolding put
stepped s row w p m n e r a = ap₂ with_progress a (e ∙ ap (λ (x : Row). stored x m) r)

pub grown : (s : Statement) (p d : Progress) (n : ℕ) → d ≡ after_of s p → total p ≤ n → total d ≤ n + 1
grown s p d n e h = rw e (omega (arith, grows s p))
