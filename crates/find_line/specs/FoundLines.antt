-- Executable: the line of the row-th statement of a kind in an RNDF or in an MDF, by a count of the lines whose first field has that kind. Assumes nothing.
-- No line is judged: of a text with a fault of 2 to 10 nothing is promised (proofs/Theorems is of texts without one).
use Rattle.std.specs.Prelude.{List, [], ◌∷◌, ℕ, suc, take, eqb, ltb}
use Rattle.terms.specs.Ascii.{Bytes}
use Rattle.terms.specs.Words.{pick}
use Rattle.scan.specs.Reach.{up_to}
use Rattle.word.specs.Keywords.{mdf_keywords}
use Rattle.word.specs.Number.{index_of, digit_first}
use Rattle.line.specs.Lines.{lines_of, trim_of}
use Rattle.line.specs.Forms.{opens, span_at_of, filled, part}
use Rattle.grammar.specs.MissionStatements.{goal, limit}
use Rattle.grammar.specs.PlaceRows.{mission_kind_row}
use Rattle.judge.specs.RndfLine.{rndf_kind}
use Rattle.walk.specs.declared.Seen.{Seen}
use Rattle.walk.specs.Seeing.{none_seen, seen_more}
use Rattle.refusal.specs.Size.{if_too_long}
pub use Rattle.refusal.specs.Size.{most}

-- ## The kind of a line, by its first field
-- where a line's fields end: before its CR and before a comment
unfoldable pub fields_end_of : Bytes → ℕ
fields_end_of l = up_to opens (take (trim_of l) l)

-- the first field of what stands before that end; empty where there is none
unfoldable pub first_of : Bytes → Bytes
first_of s = part s (span_at_of s 0)

-- in an RNDF: its column; 30 where there is no field, or no keyword
unfoldable pub rndf_line_kind_of : Bytes → ℕ
rndf_line_kind_of l = rndf_kind (first_of (take (fields_end_of l) l))

-- in an MDF a first field that begins with a digit is a goal, which stands alone, or the first of a limit's three, whatever is due there
unfoldable pub digit_kind_of : Bytes → ℕ → ℕ
digit_kind_of s stop = pick (filled (span_at_of s stop)) (mission_kind_row limit) (mission_kind_row goal)

-- 13 where there is no field, or no keyword
unfoldable pub first_order_of : Bytes → ℕ
first_order_of s = pick (digit_first (first_of s)) (digit_kind_of s (span_at_of s 0).stop) (pick (ltb (index_of (first_of s) mdf_keywords) (mission_kind_row goal)) (index_of (first_of s) mdf_keywords) 13)

unfoldable pub mdf_line_kind_of : Bytes → ℕ
mdf_line_kind_of l = first_order_of (take (fields_end_of l) l)

-- ## The count
-- lines of one kind, the first line of which has the number i
unfoldable pub counted : (Bytes → ℕ) → (kind row : ℕ) → Seen → ℕ → List Bytes → Seen
counted kind-of kind row c i [] = c
counted kind-of kind row c i (l ∷ ls) = counted kind-of kind row (seen_more (eqb (kind-of l) kind) row i c) (suc i) ls

unfoldable pub rndf_line_of : Bytes → (kind row : ℕ) → ℕ
rndf_line_of text kind row = (counted rndf_line_kind_of kind row none_seen 1 (lines_of text)).line

unfoldable pub mdf_line_of : Bytes → (kind row : ℕ) → ℕ
mdf_line_of text kind row = (counted mdf_line_kind_of kind row none_seen 1 (lines_of text)).line

-- what the functions answer: 0 of a text that is too long
unfoldable pub rndf_line_in : Bytes → (kind row : ℕ) → ℕ
rndf_line_in text kind row = if_too_long text 0 (rndf_line_of text kind row)

unfoldable pub mdf_line_in : Bytes → (kind row : ℕ) → ℕ
mdf_line_in text kind row = if_too_long text 0 (mdf_line_of text kind row)
