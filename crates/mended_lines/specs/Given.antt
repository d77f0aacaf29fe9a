-- WHAT A READER MUST BELIEVE. The lines of the given text that come out of the mending tool, and so which of them a line of the mended text is. Request L9. Assumes nothing.
use Rattle.terms.specs.Words.{List, [], Bool, true, false, ℕ, suc, length, eqb, Bytes, pick}
use Rattle.std.specs.Prelude.{get_or, ◌∷◌, ◌-◌, ◌&&◌}
use Rattle.line.specs.Lines.{lines_of}
use Rattle.law.specs.Tables.{gather}
use Rattle.mend_law.specs.Mend.{Change, stays, goes, recount, changes}
use Rattle.mend_lines.specs.declared.Before.{Before}
use Rattle.mend_lines.specs.declared.Becomes.{Becomes}
use Rattle.mend_lines.specs.declared.Becomes.TheVariants.{Stays, Goes, Recount}
use Rattle.mend_lines.specs.Forward.{change_of}
use Rattle.mend_pieces.specs.Pieces.{behind_line}

-- L9: "the later line goes", "it goes": of these nothing comes out
abbrev pub kept_number : ℕ → Change → List ℕ
kept_number i stays = i ∷ []
kept_number i (goes which) = []
kept_number i (recount f n) = i ∷ []

-- the numbers in the given text of the lines that come out, in order
unfoldable pub kept_lines : Bytes → List ℕ
kept_lines text = gather (λ c. kept_number c.line c.change) (changes text)

-- of the line with this number in the mended text; of one behind its last, the one behind the given text's last (01: a text that ends too early is refused there). 0 is no line, and stays 0
unfoldable pub given_line_of : (text : Bytes) (wanted : ℕ) → ℕ
given_line_of text wanted = pick (eqb wanted 0) 0 (get_or (kept_lines text) (wanted - 1) (suc (length (lines_of text))))

-- ## Executable, going forward
unfoldable pub kept_of : Becomes → Bool
kept_of Stays = true
kept_of (Goes k) = false
kept_of (Recount start stop n) = true

-- i: the number of the first of these lines; so many that come out are passed by
unfoldable pub given_from : (i passed : ℕ) → Before → List Bytes → ℕ
given_from i passed b [] = i
given_from i passed b (l ∷ ls) = pick (kept_of (change_of b l ls) && eqb passed 0) i (given_from (suc i) (passed - pick (kept_of (change_of b l ls)) 1 0) (behind_line b l) ls)
