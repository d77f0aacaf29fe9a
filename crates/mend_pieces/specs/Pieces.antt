-- Executable: what comes out for each line, going forward over the given lines with what the lines before have left: the bytes, the lines, the rows that are listed. Assumes nothing.
use Rattle.std.specs.Prelude.{List, [], ◌∷◌, ◌++◌, ℕ, suc, ◌+◌, length, take, drop, ltb}
use Rattle.terms.specs.Words.{Bytes, pick}
use Rattle.scan.specs.Reach.{reach, stops_by}
use Rattle.scan.specs.declared.Until.TheVariants.{Byte}
use Rattle.number.specs.House.{house_integer}
use Rattle.room.specs.Room.{fitted}
use Rattle.find_line.specs.FoundLines.{rndf_line_kind_of}
use Rattle.mend_lines.specs.declared.Before.{Before}
use Rattle.mend_lines.specs.declared.Becomes.{Becomes}
use Rattle.mend_lines.specs.declared.Becomes.TheVariants.{Stays, Goes, Recount}
use Rattle.mend_lines.specs.Forward.{after_of, change_of}

-- where the line that starts at a place stops: behind its LF, or where the text ends
abbrev pub lf_from : Bytes → ℕ → ℕ
lf_from s from = reach (stops_by (Byte 10)) s from

unfoldable pub stop_of : Bytes → ℕ → ℕ
stop_of s from = pick (ltb (lf_from s from) (length s)) (lf_from s from + 1) (lf_from s from)

-- ## One line
-- its bytes, with its LF or without
abbrev pub piece_of : Becomes → Bytes → Bytes
piece_of Stays l = l
piece_of (Goes k) l = []
piece_of (Recount start stop n) l = take start l ++ (house_integer (fitted n) ++ drop stop l)

-- the line that comes out, if any: the piece of the line without its LF
abbrev pub lines_for : Becomes → Bytes → List Bytes
lines_for Stays l = l ∷ []
lines_for (Goes k) l = []
lines_for (Recount start stop n) l = piece_of (Recount start stop n) l ∷ []

-- the row that is listed, if any, of the line with the number i
abbrev pub row_for : ℕ → Becomes → List (List ℕ)
row_for i Stays = []
row_for i (Goes k) = (i ∷ k ∷ []) ∷ []
row_for i (Recount start stop n) = (i ∷ 1 ∷ []) ∷ []

-- what the lines up to this one have left
abbrev pub behind_line : Before → Bytes → Before
behind_line b l = after_of b (rndf_line_kind_of l)

-- ## All lines from one on; `text`: what is left of the text there
unfoldable pub mended_bytes : Before → (text : Bytes) → List Bytes → Bytes
mended_bytes b text [] = []
mended_bytes b text (l ∷ ls) = piece_of (change_of b l ls) (take (suc (length l)) text) ++ mended_bytes (behind_line b l) (drop (suc (length l)) text) ls

unfoldable pub mended_lines_of : Before → List Bytes → List Bytes
mended_lines_of b [] = []
mended_lines_of b (l ∷ ls) = lines_for (change_of b l ls) l ++ mended_lines_of (behind_line b l) ls

unfoldable pub changed_rows : (i : ℕ) → Before → List Bytes → List (List ℕ)
changed_rows i b [] = []
changed_rows i b (l ∷ ls) = row_for i (change_of b l ls) ++ changed_rows (suc i) (behind_line b l) ls
