-- WHAT A READER MUST BELIEVE. What a planner is told of a reply: one sentence, with the names of the files; of a refusal that of Sentences. Assumes nothing.
use Rattle.replies.specs.Types.{PairReply, RndfReply}
use Rattle.std.specs.Prelude.{List, [], ◌++◌, ℕ, suc, ◌-◌, eqb, ltb, length, Ok, Err}
use Rattle.terms.specs.Ascii.{Bytes, ascii}
use Rattle.terms.specs.Words.{pick}
use Rattle.scan.specs.Allowed.{separates}
use Rattle.scan.specs.Reach.{up_to, fails}
use Rattle.number.specs.House.{house_integer}
use Rattle.rows.specs.Read.{goal_at_of}
use Rattle.find_line.specs.FoundLines.{mdf_line_in}
use Rattle.grammar.specs.MissionStatements.{goal}
use Rattle.grammar.specs.PlaceRows.{mission_kind_row}
use Rattle.counts.specs.declared.Counts.{Counts}
use Rattle.counts.specs.declared.MissionCounts.{MissionCounts}
use Rattle.refusal.specs.declared.Refusal.{Refusal}
use Rattle.shown.specs.Shown.{picture, line_in}
use Rattle.reasons.specs.Reasons.{reason_of}
unfoldable pub use Rattle.answers.specs.Sentences.{place, detail, why_of, sentence}

-- ## A refusal
-- a refusal of file 0 is about no line of a text: the reason alone
unfoldable pub unplaced : (name : Bytes) (number : ℕ) → Bytes
unplaced name number = name ++ ascii ": " ++ reason_of 0 number ++ ascii " (" ++ house_integer number ++ ascii ")\n"

-- 01: "Each gives file (1 RNDF, 2 MDF), line, number."; L7: "a column". L5 and L13: file 0, of the mission
unfoldable pub refused : (rndf mdf rndf-text mdf-text : Bytes) → Refusal → Bytes
refused rndf mdf rndf-text mdf-text why =
    pick
    (eqb why.file 1)
    (sentence rndf rndf-text why.line why.number why.column)
    (pick (eqb why.file 0) (unplaced mdf why.number) (sentence mdf mdf-text why.line why.number why.column))

-- ## The rows used
-- `1 lane`, `2 lanes`
unfoldable pub counted : ℕ → Bytes → Bytes
counted n word = house_integer n ++ ascii " " ++ word ++ pick (eqb n 1) [] (ascii "s")

unfoldable pub next : ℕ → Bytes → Bytes
next n word = ascii ", " ++ counted n word

-- in the order of document 01's summary
unfoldable pub network_counts : Counts → Bytes
network_counts c =
    counted c.segments (ascii "segment")
    ++ next c.zones (ascii "zone")
    ++ next c.lanes (ascii "lane")
    ++ next c.points (ascii "point")
    ++ next c.spots (ascii "spot")
    ++ next c.checkpoints (ascii "checkpoint")
    ++ next c.stops (ascii "stop")
    ++ next c.exits (ascii "exit")

unfoldable pub mission_counts : MissionCounts → Bytes
mission_counts m = next m.goals (ascii "goal") ++ next m.limits (ascii "speed limit")

-- ## The two replies
-- an RNDF, where this sentence says what is the matter with its MDF (none: nothing, or no MDF is asked for): what is wrong with the RNDF is told first
unfoldable pub rndf_accepted : (name trouble : Bytes) → Counts → Bytes
rndf_accepted name trouble c = pick (ltb 0 (length trouble)) trouble (name ++ ascii ": accepted; " ++ network_counts c ++ ascii "\n")

unfoldable pub rndf_answer_of : (name text trouble : Bytes) → RndfReply → Bytes
rndf_answer_of name text trouble (Ok (c, file)) = rndf_accepted name trouble c
rndf_answer_of name text trouble (Err why) = sentence name text why.line why.number why.column

unfoldable pub pair_answer_of : (rndf mdf rndf-text mdf-text : Bytes) → PairReply → Bytes
pair_answer_of rndf mdf rndf-text mdf-text (Ok (c, file, m, mission_file_of)) = rndf ++ ascii " with " ++ mdf ++ ascii ": accepted; " ++ network_counts c ++ mission_counts m ++ ascii "\n"
pair_answer_of rndf mdf rndf-text mdf-text (Err why) = refused rndf mdf rndf-text mdf-text why

-- ## Can the mission be driven? (L13)
-- start: the point's identifier as it was given; goals: the table of goals as the reader fills it. 31 has "its row in place of the line"
unfoldable pub goal_number_of : (goals : List ℕ) (row : ℕ) → ℕ
goal_number_of goals row = (goal_at_of goals row).number.0

-- where the way to the goal in a row begins: "the first goal must be reachable from the start .., each later goal from the one before"
unfoldable pub way_from : (start : Bytes) (goals : List ℕ) (row : ℕ) → Bytes
way_from start goals row = pick (eqb row 0) start (ascii "goal " ++ house_integer (goal_number_of goals (row - 1)))

-- `goal 7 can't be reached from goal 9 (31)`
unfoldable pub no_way : (start : Bytes) (goals : List ℕ) (row : ℕ) → Bytes
no_way start goals row = ascii "goal " ++ house_integer (goal_number_of goals row) ++ ascii " can't be reached from " ++ way_from start goals row ++ ascii " (31)\n"

-- the line of the goal in a row, and its column: the line's first field
unfoldable pub goal_line_of : (text : Bytes) (row : ℕ) → ℕ
goal_line_of text row = mdf_line_in text (mission_kind_row goal) row

unfoldable pub goal_column_of : (text : Bytes) (line : ℕ) → ℕ
goal_column_of text line = suc (up_to (fails separates) (line_in text line))

-- with the place in the MDF, and the line with a caret under the goal
unfoldable pub stuck_at : (name text words : Bytes) (line column : ℕ) → Bytes
stuck_at name text words line column = name ++ place line ++ place column ++ ascii ": " ++ words ++ picture (line_in text line) column

unfoldable pub stuck : (name text start : Bytes) (goals : List ℕ) (row : ℕ) → Bytes
stuck name text start goals row = stuck_at name text (no_way start goals row) (goal_line_of text row) (goal_column_of text (goal_line_of text row))

-- `1.9.1 is no point of network.rndf (30)`
unfoldable pub no_start : (rndf start : Bytes) → Bytes
no_start rndf start = start ++ ascii " is no point of " ++ rndf ++ ascii " (30)\n"

unfoldable pub not_driven : (rndf mdf rndf-text mdf-text start : Bytes) (goals : List ℕ) → Refusal → Bytes
not_driven rndf mdf rndf-text mdf-text start goals why =
    pick
    (eqb why.number 31)
    (stuck mdf mdf-text start goals why.line)
    (pick (eqb why.number 30) (no_start rndf start) (refused rndf mdf rndf-text mdf-text why))

unfoldable pub mission_answer : (rndf mdf rndf-text mdf-text start : Bytes) (goals : List ℕ) → PairReply → Bytes
mission_answer rndf mdf rndf-text mdf-text start goals (Ok (c, file, m, mission_file_of)) = mdf ++ ascii ": can be driven from " ++ start ++ ascii "\n"
mission_answer rndf mdf rndf-text mdf-text start goals (Err why) = not_driven rndf mdf rndf-text mdf-text start goals why
