-- What it means to walk over checkpoint rows: which are left, which are passed and what is put meanwhile. Assumes nothing.
use Rattle.std.specs.Prelude.{◌≡◌, ◌++◌, ◌+◌, ◌≤◌}
use Rattle.terms.specs.Words.{List, map, ℕ, length, Bytes, Each}
use Rattle.rows.specs.Read.{checkpoint_at_of}
use Rattle.filled_rows.specs.From.{From}
use Rattle.grammar.specs.Tables.{CheckpointRow}
use Rattle.table_words.specs.Shown.{shown_checkpoint}
use Rattle.output.specs.Pen.{Pen, put}
use Rattle.features.specs.Drawn.{Walk, walk}
use Rattle.map_tables.specs.Marked.{marks}

-- none of these rows stands before this point
abbrev pub Behind : ℕ → List CheckpointRow → Type 0
Behind end rows = Each (λ r. end ≤ r.point) rows

-- cps: the table of checkpoints, of which `count` rows are used
module _ (cps : List ℕ) (count : ℕ) where
  -- these rows are left, from row `next` on
  pub record Left (next : ℕ) (rows : List CheckpointRow) : Type 0 where
    pub all : count ≡ next + length rows
    pub read : From (checkpoint_at_of cps) next (map shown_checkpoint rows)

  -- a walk that passes these rows, of parts whose points end before `end`, and puts these features, each with its comma
  abbrev pub Passes : (Walk → Walk) → (end : ℕ) → (own : List CheckpointRow) → List Bytes → Type 0
  Passes g end own features = (q : Pen) (next : ℕ) (others : List CheckpointRow) → Left next (own ++ others) → Behind end others → g (walk q next) ≡ walk (put q (marks 1 features)) (next + length own)
