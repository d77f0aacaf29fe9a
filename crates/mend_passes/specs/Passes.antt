-- Executable: the entries of exits, of the lines that come out, going forward over the given lines; a row of the list. Assumes nothing.
use Rattle.std.specs.Prelude.{List, [], ◌∷◌, Bool, true, false, ℕ}
use Rattle.terms.specs.Words.{Bytes, pick}
use Rattle.fill.specs.Resolve.{Look}
use Rattle.mend_lines.specs.declared.Before.{Before}
use Rattle.mend_lines.specs.declared.Becomes.{Becomes}
use Rattle.mend_lines.specs.declared.Becomes.TheVariants.{Stays, Goes, Recount}
use Rattle.mend_lines.specs.Forward.{change_of}
use Rattle.mend_pieces.specs.Pieces.{behind_line}
use Rattle.mend_tests.specs.Tests.{is_exit_right_of}

-- ## What is listed
-- a row is its words
abbrev pub list_row : List ℕ → List ℕ
list_row row = row

-- ## Entries of exits, of lines that come out as they are: a count line is no exit. m: how many segments there are
abbrev pub exit_right_at : Look → (m : ℕ) → Becomes → Bytes → Bool
exit_right_at look m Stays l = is_exit_right_of look m l
exit_right_at look m (Goes k) l = true
exit_right_at look m (Recount a b n) l = true

unfoldable pub are_exits_right_of : Look → (m : ℕ) → Before → List Bytes → Bool
are_exits_right_of look m b [] = true
are_exits_right_of look m b (l ∷ ls) = pick (exit_right_at look m (change_of b l ls) l) (are_exits_right_of look m (behind_line b l) ls) false
