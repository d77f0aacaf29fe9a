-- THE LAW: the walk over a text without a fault of 2 to 10 leaves in the tables the rows that `fill` gives for its statements, as `progress` shows them. Assumes nothing.
use mathlib.Core.Path.{◌≡◌, refl, sym, ap, ◌∙◌}
use mathlib.Core.List.{List, map}
use Prim.Native.Nat.{ℕ, ◌+◌}
use lib.IntN.{ℤ}
use Rattle.terms.specs.Ascii.{Bytes}
use Rattle.line.specs.Content.{Field}
use Rattle.grammar.specs.Editions.{march}
use Rattle.grammar.specs.Statements.{Statement}
use Rattle.text.specs.Answers.{read}
use Rattle.text.proofs.Theorems.{read-rndf}
use Rattle.fill.specs.NetworkRows.{State, Rows, start, rows, ends}
use Rattle.fill.specs.Tally.{no_counts, tallied}
use Rattle.statement.specs.Meaning.{Stretch, stretch}
use Rattle.rows.specs.declared.ExitRow.{ExitRow}
use Rattle.rows.specs.Columns.{segment_words_of, lane_words_of, zone_words_of, spot_words_of, point_words_of, checkpoint_words_of, stop_words_of, exit_words_of}
use Rattle.rows.specs.Strides.{segment_stride, lane_stride, zone_stride, spot_stride, point_stride, checkpoint_stride, stop_stride, exit_stride}
use Rattle.rows.specs.Table.{put_rows}
use Rattle.progress.specs.declared.Progress.{Progress}
use Rattle.progress.specs.After.{no_progress}
use Rattle.progress.specs.Shown.{shown, shown_segment, shown_lane, shown_zone, shown_spot}
use Rattle.progress.proofs.Shown.{none-shown}
use Rattle.walk.specs.Standing.{places_in}
use Rattle.walk.specs.Walking.{gathered}
use Rattle.walk.proofs.RndfWalk as R
use Rattle.edition_judge.proofs.EditionWalk as E
use Rattle.network.specs.Storing.{memory}
use Rattle.network.specs.Reading.{with_progress, put, filled_of}
use Rattle.network.proofs.Answered.{by_meaning}
use Rattle.network.proofs.ExitLines.{exit-starts, exits-at}
use Rattle.network.proofs.Stored.{told, shown_point, shown_checkpoint, shown_stop, AllNumbered, exit-point, rows-put, first-behind, within-behind, points_behind, statements-put}

-- ## What the statements of a text give. Names are stretches of the text
abbrev pub nothing_yet : State Stretch
nothing_yet = start (stretch 0 0)

abbrev pub rows-given : List (Statement Field) → Rows Stretch
rows-given ts = rows (told ts) nothing_yet

abbrev pub state-behind : List (Statement Field) → State Stretch
state-behind ts = ends (told ts) nothing_yet

-- what there is behind them
abbrev pub progress-behind : List (Statement Field) → Progress
progress-behind ts = shown (state-behind ts) (tallied (told ts) no_counts) (first-behind (told ts) 0 0) (within-behind (told ts) 0)

-- the rows of the exits, until their entries are looked up
abbrev pub exits-given : Bytes → List (Statement Field) → List ExitRow
exits-given text ts = exits-at (map exit-point (rows-given ts).exits) (exit-starts (places_in text) ts)

-- the points are those of the part that is open, and those before it
pub points-so-far : (ts : List (Statement Field)) → (progress-behind ts).first + (progress-behind ts).within ≡ (state-behind ts).points
points-so-far ts = points_behind (told ts) nothing_yet 0 0 refl

-- THE LAW
pub filled-read : (text : Bytes) (ts : List (Statement Field)) → read-rndf text ≡ read ts → AllNumbered (rows-given ts).checkpoints → (sg ln zn sp : List ℕ) (pt : List ℤ) (ck st ex : List ℕ)
    → filled_of march text (memory no_progress sg ln zn sp pt ck st ex) ≡ gathered (memory (progress-behind ts)
    (put_rows segment_stride segment_words_of sg 0 (map shown_segment (rows-given ts).segments))
    (put_rows lane_stride lane_words_of ln 0 (map shown_lane (rows-given ts).lanes))
    (put_rows zone_stride zone_words_of zn 0 (map shown_zone (rows-given ts).zones))
    (put_rows spot_stride spot_words_of sp 0 (map shown_spot (rows-given ts).spots))
    (put_rows point_stride point_words_of pt 0 (map shown_point (rows-given ts).points))
    (put_rows checkpoint_stride checkpoint_words_of ck 0 (map shown_checkpoint (rows-given ts).checkpoints))
    (put_rows stop_stride stop_words_of st 0 (map shown_stop (rows-given ts).stops))
    (put_rows exit_stride exit_words_of ex 0 (exits-given text ts)))
unfolding filled_of rows-put
filled-read text ts e g sg ln zn sp pt ck st ex =
    let m = memory no_progress sg ln zn sp pt ck st ex in
    ap (λ (p : Progress). E.whole-walk march put by_meaning (with_progress p m) text) (sym none-shown)
    ∙ E.walk-read march put by_meaning (with_progress (shown nothing_yet no_counts 0 0) m) text ts e
    ∙ ap gathered (statements-put (places_in text) ts (R.rndf_as-many text ts e) nothing_yet g no_counts 0 0 refl (refl, refl, refl) m)
