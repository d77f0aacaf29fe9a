-- Executable: exits whose second word is where their entry starts in the text get the row of the point that their entry names; or the first row whose entry names none. Assumes nothing.
use Rattle.std.specs.Prelude.{List, map, Bool, true, false, ℕ, zero, suc, Some, None}
use Rattle.std.proofs.Math.Option.{Option, none, some}
use Rattle.terms.specs.Ascii.{Bytes}
use Rattle.room.specs.Room.{fitted}
use Rattle.rows.specs.Lay.{put_row_of}
use Rattle.rows.specs.Strides.{exit_stride}
use Rattle.rows.specs.Columns.{exit_words_of}
use Rattle.rows.specs.Read.{exit_at}
use Rattle.rows.specs.Table.{table_of}
use Rattle.rows.specs.declared.ExitRow.{ExitRow}
use Rattle.statement.specs.Meaning.{the_the_point_of}
use Rattle.grammar.specs.Statements.{PointId}
use Rattle.fill.specs.Resolve.{Look, resolve, or-zero}
use Rattle.fill.specs.FirstFaults.{Fault, unless_found}
use Rattle.references.specs.Entry.{entry_at}
use Rattle.std.specs.Prelude as Rust

-- the point that the entry at a place names; m: how many segments there are
unfoldable pub named_at : Bytes → Look → (m at : ℕ) → Option ℕ
named_at text look m at = resolve m look (the_the_point_of (entry_at text at))

abbrev pub with_point : ExitRow → ℕ → ExitRow
with_point e i = record { point = e.point; entry = fitted i }

-- the table with this point in the second word of a row
abbrev pub put_point_of : List ℕ → (row point : ℕ) → List ℕ
put_point_of t row i = put_row_of exit_stride t row (exit_words_of (with_point (exit_at t row) i))

-- the whole table, or the first row whose entry names no point
pub data Outcome : Type 0 where
  done : List ℕ → Outcome
  at : ℕ → Outcome

abbrev pub onward : List ℕ → ℕ → Option ℕ → (List ℕ → Outcome) → Outcome
onward t row none rest = at row
onward t row (some i) rest = rest (put_point_of t row i)

-- what the answer for one row and the table that is left stand for
abbrev pub tried : ℕ → Bool → List ℕ → Outcome
tried row true t = done t
tried row false t = at row

-- so many rows, from a row on
unfoldable pub resolved_from : Bytes → Look → ℕ → List ℕ → (row count : ℕ) → Outcome
resolved_from text look m t row zero = done t
resolved_from text look m t row (suc k) = onward t row (named_at text look m (exit_at t row).entry) (λ u. resolved_from text look m u (suc row) k)

-- ## What the table holds, whatever the answer
-- a row with its point, where its entry names one
abbrev pub with_found : List ℕ → ℕ → Option ℕ → List ℕ
with_found t row none = t
with_found t row (some i) = put_point_of t row i

abbrev pub left_on : List ℕ → ℕ → Option ℕ → (List ℕ → List ℕ) → List ℕ
left_on t row none rest = t
left_on t row (some i) rest = rest (put_point_of t row i)

-- so many rows, from a row on, up to the first whose entry names no point: it and the rows behind it are as they were
unfoldable pub left_from : Bytes → Look → ℕ → List ℕ → (row count : ℕ) → List ℕ
left_from text look m t row zero = t
left_from text look m t row (suc k) = left_on t row (named_at text look m (exit_at t row).entry) (λ u. left_from text look m u (suc row) k)

-- what the answer and the table that is left stand for
abbrev pub told : Rust.Option ℕ → List ℕ → Outcome
told (Some row) t = at row
told None t = done t

-- ## Over given rows
-- the entry that a row stands for
abbrev pub entry_of_row : Bytes → ExitRow → PointId
entry_of_row text e = the_the_point_of (entry_at text e.entry)

-- 01, 12: "entry is no declared lane waypoint or perimeter point"
abbrev pub entry_fault : Look → ℕ → List PointId → PointId → Option ℕ
entry_fault look m front e = unless_found (resolve m look e)

-- a row with the point for where its entry starts
abbrev pub resolved_row : Bytes → Look → ℕ → ExitRow → ExitRow
resolved_row text look m e = with_point e (or-zero (resolve m look (entry_of_row text e)))

-- what the first fault among rows stands for; no fault: the table of all rows with their points, in a slice of `len` words
abbrev pub picked : Bytes → Look → ℕ → (len : ℕ) → List ExitRow → Option Fault → Outcome
picked text look m len rs none = done (table_of 0 exit_words_of len (map (resolved_row text look m) rs))
picked text look m len rs (some f) = at f.row
