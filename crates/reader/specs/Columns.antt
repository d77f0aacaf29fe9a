-- Executable: the refusal that is replied, once line and number are known. Assumes nothing.
use Rattle.std.specs.Prelude.{ℕ, eqb}
use Rattle.terms.specs.Ascii.{Bytes}
use Rattle.terms.specs.Words.{pick}
use Rattle.refusal.specs.declared.Refusal.{Refusal}
use Rattle.replies.specs.Replies.{refusal}
use Rattle.columns.specs.RndfColumns.{rndf_column_in}
use Rattle.columns.specs.MdfColumns.{mdf_column_in}

-- L7: "Where the line is 0, for 10, .. it is 0"
abbrev pub if_there : (line number column : ℕ) → ℕ
if_there line number column = pick (eqb number 10) 0 (pick (eqb line 0) 0 column)

unfoldable pub rndf_told_of : Bytes → (line number : ℕ) → ℕ
rndf_told_of text line number = if_there line number (rndf_column_in text line number)

unfoldable pub mdf_told_of : Bytes → (line number : ℕ) → ℕ
mdf_told_of text line number = if_there line number (mdf_column_in text line number)

abbrev pub rndf_refusal : Bytes → (line number : ℕ) → Refusal
rndf_refusal text line number = refusal 1 line number (rndf_told_of text line number)

abbrev pub mdf_refusal : Bytes → (line number : ℕ) → Refusal
mdf_refusal text line number = refusal 2 line number (mdf_told_of text line number)
