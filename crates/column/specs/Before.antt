-- Executable: the lines of an RNDF before the one that is wanted, the place behind them, and the column of the line that stands there. Assumes nothing.
use Rattle.std.specs.Prelude.{List, [], ◌∷◌, ℕ, suc, ◌+◌, length, take, eqb, Some, None, Option}
use Rattle.terms.specs.Ascii.{Bytes}
use Rattle.terms.specs.Words.{pick}
use Rattle.line.specs.Lines.{lines_of}
use Rattle.statement.specs.declared.Statement.{Statement}
use Rattle.place.specs.declared.Place.{Place}
use Rattle.place.specs.Step.{first_place}
use Rattle.grammar.specs.PlaceTable.{rndf_table_of}
use Rattle.judge.specs.Judging.{Got, bad, blank, said, line}
use Rattle.judge.specs.RndfLine.{rndf_judging}
use Rattle.refusal.specs.Size.{if_too_long}
use Rattle.columns.specs.RndfColumns.{rndf_line_column}

-- ## Line i of lines of which the first has the number j: what stands before it, and it with what stands behind it. Where there is no such line, all of them stand before it.
unfoldable pub lines_before : (j i : ℕ) → List Bytes → List Bytes
lines_before j i [] = []
lines_before j i (l ∷ ls) = pick (eqb j i) [] (l ∷ lines_before (suc j) i ls)

unfoldable pub lines_from : (j i : ℕ) → List Bytes → List Bytes
lines_from j i [] = []
lines_from j i (l ∷ ls) = pick (eqb j i) (l ∷ ls) (lines_from (suc j) i ls)

-- how many bytes the lines before it have, each with an LF
unfoldable pub bytes_before : (j i : ℕ) → List Bytes → ℕ
bytes_before j i [] = 0
bytes_before j i (l ∷ ls) = pick (eqb j i) 0 (suc (length l) + bytes_before (suc j) i ls)

-- ## The place behind lines, the first of which starts at `start`; none behind a bad one
abbrev pub place_on : Place → Got Statement Place → (Place → Option Place) → Option Place
place_on p (bad n) k = None
place_on p blank k = k p
place_on p (said s q) k = k q

unfoldable pub place_after_of : Place → (start : ℕ) → List Bytes → Option Place
place_after_of p start [] = Some p
place_after_of p start (l ∷ ls) = place_on p (line rndf_judging l start p) (λ q. place_after_of q (start + suc (length l)) ls)

-- behind a text
unfoldable pub place_behind_of : Bytes → Option Place
place_behind_of text = if_too_long text None (place_after_of first_place 0 (lines_of text))

-- behind the lines before line i
unfoldable pub place_before_of : Bytes → (i : ℕ) → Option Place
place_before_of text i = if_too_long text None (place_behind_of (take (bytes_before 1 i (lines_of text)) text))

-- ## The column of the first of these lines, at that place, with the refusal n; 0 where there is none
unfoldable pub column_behind : (n : ℕ) → Option Place → List Bytes → ℕ
column_behind n None ls = 0
column_behind n (Some p) [] = 0
column_behind n (Some p) (l ∷ ls) = rndf_line_column rndf_table_of l p n
