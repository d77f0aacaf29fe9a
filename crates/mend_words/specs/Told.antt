-- WHAT A READER MUST BELIEVE. What a planner is told of a text that the mending tool took, a sentence for each line that it lists, and of one that is past mending. Request L9: "Mend what can be mended, and say so." Assumes nothing.
use Rattle.replies.specs.Types.{RndfReply}
use Rattle.std.specs.Prelude.{◌≡◌, List, [], ◌∷◌, ◌++◌, ℕ, suc, ◌+◌, ◌≤◌, ◌<◌, eqb, take, drop, Ok, Err}
use Rattle.terms.specs.Ascii.{Bytes, ascii}
use Rattle.terms.specs.Words.{pick}
use Rattle.number.specs.Decimal.{decimal}
use Rattle.number.specs.House.{house_integer}
use Rattle.line.specs.Lines.{lines_of}
use Rattle.room.specs.Room.{fitted}
use Rattle.law.specs.Tables.{gather}
use Rattle.output.specs.Pen.{pen, Wrote}
use Rattle.shown.specs.Shown.{line_in}
use Rattle.refusal.specs.declared.Refusal.{Refusal}
use Rattle.answers.specs.Answers.{place, why_of, sentence}
use Rattle.mend_law.specs.Mend.{Change, stays, goes, recount, changes}
use Rattle.mend_lines.specs.declared.Before.{Before}
use Rattle.mend_lines.specs.declared.Becomes.{Becomes}
use Rattle.mend_lines.specs.declared.Becomes.TheVariants.{Stays, Goes, Recount}
use Rattle.mend_lines.specs.Forward.{change_of}
use Rattle.mend_pieces.specs.Pieces.{behind_line}
use Rattle.mended_lines.specs.Given.{given_line_of}
use Rattle.mend_words.specs.declared.Next.{Next}

-- ## A change
-- `network.rndf:7: `
unfoldable pub at_line : (name : Bytes) (line : ℕ) → Bytes
at_line name line = name ++ ascii ":" ++ house_integer (fitted line) ++ ascii ": "

-- L9: "which of the three": 2, a single option; 3, behind `end_file`
unfoldable pub gone_words : (which : ℕ) → Bytes
gone_words which = pick (eqb which 2) (ascii "option given again, taken out\n") (ascii "behind end_file, taken out\n")

-- of a line that stays nothing is said; of a count the number that comes out, and the one that stood there
abbrev pub change_told : (name : Bytes) (line : ℕ) → Change → Bytes
change_told name line stays = []
change_told name line (goes which) = at_line name line ++ gone_words which
change_told name line (recount f n) = at_line name line ++ (ascii "the count is " ++ decimal n ++ ascii ", not " ++ f.bytes ++ ascii "\n")

-- "It lists each changed line in order"
unfoldable pub changes_told : (name text : Bytes) → Bytes
changes_told name text = gather (λ c. change_told name c.line c.change) (changes text)

-- where no line is listed
unfoldable pub nothing_told : (name : Bytes) → Bytes
nothing_told name = name ++ ascii ": nothing to mend\n"

-- ## Past mending
-- a fault of the mended text: its place with the line's number in the given one; below it the line that came out
unfoldable pub fault_told : (name text mended : Bytes) → Refusal → Bytes
fault_told name text mended why = name ++ place (fitted (given_line_of text why.line)) ++ place why.column ++ ascii ": " ++ why_of (line_in mended why.line) why.number why.column

-- `network.rndf: past mending (26)`, and why the reader refuses what came out (by 26 it does)
unfoldable pub past_told : (name text mended : Bytes) → RndfReply → Bytes
past_told name text mended (Ok (c, file)) = sentence name [] 0 26 0
past_told name text mended (Err why) = sentence name [] 0 26 0 ++ fault_told name text mended why

-- ## Executable, going forward
unfoldable pub count_told : (old : Bytes) (n : ℕ) → Bytes
count_told old n = ascii "the count is " ++ house_integer (fitted n) ++ ascii ", not " ++ old ++ ascii "\n"

unfoldable pub the_told_of : (name : Bytes) (line : ℕ) → Becomes → Bytes → Bytes
the_told_of name line Stays l = []
the_told_of name line (Goes k) l = at_line name line ++ gone_words k
the_told_of name line (Recount start stop n) l = at_line name line ++ count_told (drop start (take stop l)) n

-- i: the number of the first of these lines
unfoldable pub told_from : (name : Bytes) (i : ℕ) → Before → List Bytes → Bytes
told_from name i b [] = []
told_from name i b (l ∷ ls) = the_told_of name i (change_of b l ls) l ++ told_from name (suc i) (behind_line b l) ls

-- one line told: what was put, and what is still to be told, are all that was to be told. It goes on
pub record TellsNext (name text : Bytes) (from line : ℕ) (before : Before) (out : Bytes) (next : Next) (left : Bytes) : Type 0 where
  pub told : Bytes
  pub wrote : Wrote (pen out 0) told (pen left next.at)
  pub all : told_from name line before (lines_of (drop from text)) ≡ told ++ told_from name next.line next.before (lines_of (drop next.from text))
  pub onward : from < next.from
  pub few : next.line ≤ next.from + 1
