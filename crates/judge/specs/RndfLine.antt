-- Executable: what a line of an RNDF gets, over the program's types. Assumes nothing.
use Rattle.std.specs.Prelude.{List, ℕ, get_or, ltb}
use Rattle.terms.specs.Ascii.{Bytes}
use Rattle.terms.specs.Words.{pick}
use Rattle.word.specs.Keywords.{rndf_keywords}
use Rattle.word.specs.Number.{index_of, digit_first}
use Rattle.grammar.specs.Statements.{point}
use Rattle.grammar.specs.PlaceTable.{rndf_table_of}
use Rattle.grammar.specs.PlaceRows.{kind_row}
use Rattle.statement.specs.declared.Statement.{Statement}
use Rattle.made_out.specs.Made.{shapes, needs_of, made_of, made_from}
use Rattle.place.specs.declared.Place.{Place}
use Rattle.place.specs.Step.{cell_of, refuses_by, by_cell}
use Rattle.place.specs.Abstract.{seen}
use Rattle.judge.specs.Judging.{Judging}

-- a point's line begins with a digit; 30 for a word that is no keyword
unfoldable pub rndf_kind : Bytes → ℕ
rndf_kind w = pick (digit_first w) (kind_row point) (pick (ltb (index_of w rndf_keywords) (kind_row point)) (index_of w rndf_keywords) 30)

-- with a table that is lent
abbrev pub judging : List (List ℕ) → Judging
judging table = record { St = Statement; Pl = Place; kinds = 30; kind_of = λ p w. rndf_kind w; cell = cell_of table; refuses = λ p c. refuses_by p.given c; needs = λ k. needs_of (get_or shapes k 0); made = λ s base f k. made_from (made_of s base f k); steps = λ p c s. seen (by_cell p s c) }

-- with the table of an RNDF
abbrev pub rndf_judging : Judging
rndf_judging = judging rndf_table_of
