-- Executable: what a line of an MDF gets, over the program's types. Assumes nothing.
use Rattle.std.specs.Prelude.{List, ℕ, ◌+◌, length, get_or, ltb}
use Rattle.terms.specs.Ascii.{Bytes}
use Rattle.terms.specs.Words.{pick}
use Rattle.word.specs.Keywords.{mdf_keywords}
use Rattle.word.specs.Number.{index_of, digit_first}
use Rattle.grammar.specs.MissionStatements.{goal}
use Rattle.grammar.specs.PlaceTable.{mdf_table_of}
use Rattle.grammar.specs.PlaceRows.{mission_kind_row}
use Rattle.statement.specs.declared.Order.{Order}
use Rattle.made_out.specs.MadeOrders.{order_shapes, order_needs, order_made_of, order_from}
use Rattle.mission_place.specs.declared.MissionPlace.{MissionPlace}
use Rattle.mission_place.specs.Step.{number_kind_of, cell_of, refuses_by, by_cell}
use Rattle.mission_place.specs.Abstract.{seen}
use Rattle.judge.specs.Judging.{Got, bad, blank, said, Judging, line}
use Rattle.mission_judge.specs.declared.MissionVerdict.{MissionVerdict}
use Rattle.mission_judge.specs.declared.MissionVerdict.TheVariants as Verdict

-- a line that begins with a digit is a goal or a limit by its place; 13 for a word that is no keyword
unfoldable pub mdf_kind : MissionPlace → Bytes → ℕ
mdf_kind p w = pick (digit_first w) (number_kind_of p) (pick (ltb (index_of w mdf_keywords) (mission_kind_row goal)) (index_of w mdf_keywords) 13)

-- with a table that is lent
abbrev pub judging : List (List ℕ) → Judging
judging table = record { St = Order; Pl = MissionPlace; kinds = 13; kind_of = mdf_kind; cell = cell_of table; refuses = refuses_by; needs = λ k. order_needs (get_or order_shapes k 0); made = λ s base f k. order_from (order_made_of s base f k); steps = λ p c s. seen (by_cell p s c) }

-- with the table of an MDF
abbrev pub mdf_judging : Judging
mdf_judging = judging mdf_table_of

-- as the program answers
abbrev pub verdict : Got Order MissionPlace → MissionVerdict
verdict (bad n) = Verdict.Bad n
verdict blank = Verdict.Blank
verdict (said s q) = Verdict.Said s q

-- a line that ends behind what 32 bits count gets 1, as a text that is too long does: no text that is walked has one
unfoldable pub line_by : List (List ℕ) → Bytes → ℕ → MissionPlace → MissionVerdict
line_by table s base p = pick (ltb (base + length s) 4294967296) (verdict (line (judging table) s base p)) (Verdict.Bad 1)
