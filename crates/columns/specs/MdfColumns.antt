-- Executable: the column in an MDF, over the program's types. Assumes nothing.
use Rattle.std.specs.Prelude.{List, ℕ, eqb, Some, None, Option}
use Rattle.terms.specs.Ascii.{Bytes}
use Rattle.terms.specs.Words.{pick}
use Rattle.line.specs.Lines.{lines_of}
use Rattle.line.specs.Forms.{part}
use Rattle.line.specs.declared.Fields.{Fields}
use Rattle.number.specs.Executable.{the_integer_of}
use Rattle.statement.specs.declared.Order.TheVariants as or
use Rattle.mission_place.specs.declared.MissionPlace.{MissionPlace}
use Rattle.mission_place.specs.Step.{first_place, permits_of}
use Rattle.mission_judge.specs.MdfLine.{judging, mdf_judging}
use Rattle.refusal.specs.Size.{if_too_long}
use Rattle.columns.specs.Locating.{tried_of, kind_field_of, field_of, fields_column_of, content_column_of, line_column_of, line_columns}

-- the maximum 0 is no ceiling
unfoldable pub minimum_wrong_of : (n id : ℕ) → Option ℕ → ℕ
minimum_wrong_of n i (Some m) = pick (tried_of n (permits_of (or.Limit i m 0))) 2 1
minimum_wrong_of n i None = 1

unfoldable pub limit_wrong_of : (n : ℕ) → Option ℕ → Option ℕ → ℕ
limit_wrong_of n (Some i) m = pick (tried_of n (permits_of (or.Limit i 0 0))) (minimum_wrong_of n i m) 0
limit_wrong_of n None m = 0

-- of a kind: a goal has one field, the others one behind their keyword
unfoldable pub mdf_wrong : (n : ℕ) → Bytes → Fields → (kind : ℕ) → ℕ
mdf_wrong n s f k = pick (eqb k 12) (limit_wrong_of n (the_integer_of (part s f.a)) (the_integer_of (part s f.b))) (pick (eqb k 11) 0 1)

-- by a table that is lent
module _ (table : List (List ℕ)) where
  abbrev pub mdf_kind_field : Bytes → Fields → MissionPlace → (n kind : ℕ) → ℕ
  mdf_kind_field = kind_field_of (judging table) (λ p. mdf_wrong)

  abbrev pub mdf_field_of : Bytes → Fields → MissionPlace → (n : ℕ) → ℕ
  mdf_field_of = field_of (judging table) (λ p. mdf_wrong)

  abbrev pub mdf_fields_column : Bytes → MissionPlace → (n : ℕ) → ℕ
  mdf_fields_column = fields_column_of (judging table) (λ p. mdf_wrong)

  abbrev pub mdf_content_column : Bytes → MissionPlace → (n : ℕ) → ℕ
  mdf_content_column = content_column_of (judging table) (λ p. mdf_wrong)

  -- of a line at a place
  abbrev pub mdf_line_column : Bytes → MissionPlace → (n : ℕ) → ℕ
  mdf_line_column = line_column_of (judging table) (λ p. mdf_wrong)

-- of line i of a text, with the refusal n: 0 where there is no such line, or the text is too long
unfoldable pub mdf_column_in : Bytes → (i n : ℕ) → ℕ
mdf_column_in text i n = if_too_long text 0 (line_columns mdf_judging (λ p. mdf_wrong) first_place 0 1 i n (lines_of text))
