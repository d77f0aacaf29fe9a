-- Each table's laws: the laws of rows (proofs/Lay.antt, proofs/Tables.antt), said once of any form of row, and the form of each table.
-- `store-then-read lane t row lane_row h f` is the law for lanes, and so on. Assumes nothing.
use mathlib.Core.Path.{◌≡◌, refl, ap, ◌∙◌}
use mathlib.Core.Logic.{◌≢◌}
use mathlib.Core.List.{List, []}
use Prim.Native.Nat.{ℕ, min, ◌*◌, ◌<◌, ◌≤◌}
use native.Mathlib.Omega.{arith}
use lib.Dec.{lit<}
use lib.ListN.{length, get_or, replicate}
use lib.IntN.{ℤ, pos}
use Rattle.rows.specs.declared.SegmentRow.{SegmentRow}
use Rattle.rows.specs.declared.LaneRow.{LaneRow}
use Rattle.rows.specs.declared.ZoneRow.{ZoneRow}
use Rattle.rows.specs.declared.SpotRow.{SpotRow}
use Rattle.rows.specs.declared.PointRow.{PointRow}
use Rattle.rows.specs.declared.CheckpointRow.{CheckpointRow}
use Rattle.rows.specs.declared.StopRow.{StopRow}
use Rattle.rows.specs.declared.ExitRow.{ExitRow}
use Rattle.rows.specs.declared.GoalRow.{GoalRow}
use Rattle.rows.specs.declared.LimitRow.{LimitRow}
use Rattle.rows.specs.Lay.{rows_of, row_at, put_row_of}
use Rattle.rows.specs.Strides.{segment_stride, lane_stride, zone_stride, spot_stride, point_stride, checkpoint_stride, stop_stride, exit_stride, goal_stride, limit_stride}
use Rattle.rows.specs.Columns.{segment_words_of, lane_words_of, zone_words_of, spot_words_of, point_words_of, checkpoint_words_of, stop_words_of, exit_words_of, goal_words_of, limit_words_of}
use Rattle.rows.specs.Read.{segment_of, lane_of, the_zone_of, spot_of, point_of, checkpoint_of, stop_of, exit_of, goal_of, limit_of}
use Rattle.rows.specs.Table.{table_of, put_rows}
use Rattle.rows.proofs.Lay.{row-outside, put-outside, length-put, put_same, put_other}
use Rattle.rows.proofs.Tables.{row-cleared, put-rows-cleared, row-of-table}

-- a form of row: its stride, its words, the row that is read of words; the words are as many as the stride says, and reading undoes them for every value
-- that fits the row's fields, which every value that code holds does
pub record Form (R X : Type 0) : Type 1 where
  pub stride : ℕ
  pub words : R → List X
  pub back : List X → R
  pub nought : X
  pub Fits : R → Type 0
  pub some : 0 < stride
  pub long : (v : R) → length (words v) ≡ stride
  pub undone : (v : R) → Fits v → back (words v) ≡ v
  pub zero_row : back (replicate stride nought) ≡ back []

module _ {R X : Type 0} (f : Form R X) (t : List X) (row : ℕ) where
  pub store-then-read : (v : R) → row < rows_of (length t) f.stride → f.Fits v → f.back (row_at f.stride (put_row_of f.stride t row (f.words v)) row) ≡ v
  store-then-read v h g = ap f.back (put_same f.stride t row (f.words v) (f.long v) h) ∙ f.undone v g

  pub other-rows-stay : (v : R) (k : ℕ) → k ≢ row → f.back (row_at f.stride (put_row_of f.stride t row (f.words v)) k) ≡ f.back (row_at f.stride t k)
  other-rows-stay v k apart = ap f.back (put_other f.stride t row (f.words v) (f.long v) k apart)

  pub length-kept : (v : R) → length (put_row_of f.stride t row (f.words v)) ≡ length t
  length-kept v = length-put f.stride t row (f.words v) (f.long v)

  pub nothing-stored-outside : (v : R) → rows_of (length t) f.stride ≤ row → put_row_of f.stride t row (f.words v) ≡ t
  nothing-stored-outside v h = put-outside f.stride t row (f.words v) h

  -- `f.back []` is the row of zeros, by computation
  pub zero-read-outside : rows_of (length t) f.stride ≤ row → f.back (row_at f.stride t row) ≡ f.back []
  zero-read-outside h = ap f.back (row-outside f.stride t row h)

module _ {R X : Type 0} (f : Form R X) (n : ℕ) where
  -- every row of a cleared table reads as the row of zeros
  pub zero-read-cleared : (row : ℕ) → row < rows_of n f.stride → f.back (row_at f.stride (replicate n f.nought) row) ≡ f.back []
  zero-read-cleared row h = ap f.back (row-cleared f.stride n row f.nought h) ∙ f.zero_row

  -- rows stored one by one into a cleared table with room for them are the table of these rows
  pub filled : (rs : List R) → length rs * f.stride ≤ n → put_rows f.stride f.words (replicate n f.nought) 0 rs ≡ table_of f.nought f.words n rs
  filled rs h = put-rows-cleared f.stride f.words f.some f.long f.nought n rs h

  -- and reading that table gives its rows
  pub read-filled : (rs : List R) (i : ℕ) (d : R) → length rs * f.stride ≤ n → i < length rs → f.Fits (get_or rs i d) → f.back (row_at f.stride (table_of f.nought f.words n rs) i) ≡ get_or rs i d
  read-filled rs i d h l g = ap f.back (row-of-table f.stride f.words f.some f.long f.nought n rs i d h l) ∙ f.undone (get_or rs i d) g

-- a word that fits its field reads as it is
pub kept : (n top : ℕ) → n ≤ top → min n top ≡ n
kept n top h = omega arith

abbrev pub segment : Form SegmentRow ℕ
segment = record { stride = segment_stride; words = segment_words_of; back = segment_of; nought = 0; Fits = λ v. Unit {0}; some = lit< tt; long = λ v. refl; undone = λ v f. refl; zero_row = refl }

abbrev pub lane : Form LaneRow ℕ
lane = record {
  stride = lane_stride;
  words = lane_words_of;
  back = lane_of;
  nought = 0;
  Fits = λ v. (v.width.0 ≤ 65535) × (v.left ≤ 255) × (v.right ≤ 255);
  some = lit< tt;
  long = λ v. refl;
  undone = λ v f. rw (kept v.width.0 65535 f.0, kept v.left 255 f.1, kept v.right 255 f.2);
  zero_row = refl;
}

abbrev pub zone : Form ZoneRow ℕ
zone = record { stride = zone_stride; words = zone_words_of; back = the_zone_of; nought = 0; Fits = λ v. Unit {0}; some = lit< tt; long = λ v. refl; undone = λ v f. refl; zero_row = refl }

abbrev pub spot : Form SpotRow ℕ
spot = record { stride = spot_stride; words = spot_words_of; back = spot_of; nought = 0; Fits = λ v. v.width.0 ≤ 65535; some = lit< tt; long = λ v. refl; undone = λ v f. rw (kept v.width.0 65535 f); zero_row = refl }

abbrev pub point : Form PointRow ℤ
point = record { stride = point_stride; words = point_words_of; back = point_of; nought = pos 0; Fits = λ v. Unit {0}; some = lit< tt; long = λ v. refl; undone = λ v f. refl; zero_row = refl }

abbrev pub checkpoint : Form CheckpointRow ℕ
checkpoint = record {
  stride = checkpoint_stride;
  words = checkpoint_words_of;
  back = checkpoint_of;
  nought = 0;
  Fits = λ v. v.number.0 ≤ 65535;
  some = lit< tt;
  long = λ v. refl;
  undone = λ v f. rw (kept v.number.0 65535 f);
  zero_row = refl;
}

abbrev pub stop : Form StopRow ℕ
stop = record { stride = stop_stride; words = stop_words_of; back = stop_of; nought = 0; Fits = λ v. Unit {0}; some = lit< tt; long = λ v. refl; undone = λ v f. refl; zero_row = refl }

abbrev pub exit : Form ExitRow ℕ
exit = record { stride = exit_stride; words = exit_words_of; back = exit_of; nought = 0; Fits = λ v. Unit {0}; some = lit< tt; long = λ v. refl; undone = λ v f. refl; zero_row = refl }

abbrev pub goal : Form GoalRow ℕ
goal = record { stride = goal_stride; words = goal_words_of; back = goal_of; nought = 0; Fits = λ v. v.number.0 ≤ 65535; some = lit< tt; long = λ v. refl; undone = λ v f. rw (kept v.number.0 65535 f); zero_row = refl }

abbrev pub limit : Form LimitRow ℕ
limit = record {
  stride = limit_stride;
  words = limit_words_of;
  back = limit_of;
  nought = 0;
  Fits = λ v. (v.id.0 ≤ 65535) × (v.minimum.0 ≤ 65535) × (v.maximum.0 ≤ 65535);
  some = lit< tt;
  long = λ v. refl;
  undone = λ v f. rw (kept v.id.0 65535 f.0, kept v.minimum.0 65535 f.1, kept v.maximum.0 65535 f.2);
  zero_row = refl;
}
