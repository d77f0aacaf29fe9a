-- WHAT A READER MUST BELIEVE. What a planner is told of a refusal: one sentence, with the file's name and the line; and how a caller gets it. Assumes nothing.
use Rattle.std.specs.Prelude.{◌≡◌, ◌++◌, ◌-◌}
use Rattle.terms.specs.Words.{[], ℕ, length, drop, eqb, Bytes, ascii, pick}
use Rattle.number.specs.Decimal.{decimal}
use Rattle.output.specs.Output.{zero_bytes, Fits, padded}
use Rattle.shown.specs.Shown.{picture, line_in, byte_words}
use Rattle.reasons.specs.Reasons.{reason}

-- 01: 1, 11 and 19 have the line 0, and L7: they and 10 the column 0: what is 0 is not named
unfoldable pub place : ℕ → Bytes
place n = pick (eqb n 0) [] (ascii ":" ++ decimal n)

-- "for 4 the byte in words": `: a backslash`
unfoldable pub detail : (line : Bytes) (number column : ℕ) → Bytes
detail line number column = pick (eqb number 4) (ascii ": " ++ byte_words (drop (column - 1) line)) []

-- the reason and its number, and below them the line with a caret under the column
unfoldable pub why_of : (line : Bytes) (number column : ℕ) → Bytes
why_of line number column = reason number ++ detail line number column ++ ascii " (" ++ decimal number ++ ascii ")\n" ++ picture line column

-- as compilers print it: `network.rndf:9:12: the entry is no declared lane waypoint or perimeter point (12)`, and the line of the file's text
unfoldable pub sentence : (name text : Bytes) (line number column : ℕ) → Bytes
sentence name text line number column = name ++ place line ++ place column ++ ascii ": " ++ why_of (line_in text line) number column

-- how a caller gets these bytes, in an output of so many, and a number: all of them, their count, and zeros behind them; where they do not fit, 0, and zeros over the whole length
pub data WholeOrNone (said : Bytes) (lent told : ℕ) (out : Bytes) : Type 0 where
  whole : Fits lent said → told ≡ length said → out ≡ padded lent said → WholeOrNone said lent told out
  too_long : (Fits lent said → ⊥) → told ≡ 0 → out ≡ zero_bytes lent → WholeOrNone said lent told out
