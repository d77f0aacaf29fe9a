-- Executable: the column in an RNDF, over the program's types. Assumes nothing.
use Rattle.std.specs.Prelude.{List, ℕ, eqb, ℤ, pos, Some, None, Option}
use Rattle.terms.specs.Ascii.{Bytes}
use Rattle.terms.specs.Words.{pick}
use Rattle.line.specs.Lines.{lines_of}
use Rattle.line.specs.Forms.{part}
use Rattle.line.specs.declared.Fields.{Fields}
use Rattle.number.specs.Executable.{triple_of}
use Rattle.coordinate.specs.Executable.{the_coordinate_of}
use Rattle.number.specs.declared.Id.{Id}
use Rattle.statement.specs.declared.Statement.TheVariants as st
use Rattle.place.specs.declared.Place.{Place}
use Rattle.place.specs.Step.{first_place, permits_of}
use Rattle.judge.specs.RndfLine.{judging, rndf_judging}
use Rattle.refusal.specs.Size.{if_too_long}
use Rattle.columns.specs.Locating.{tried_of, kind_field_of, field_of, fields_column_of, content_column_of, line_column_of, line_columns}

-- the first point of the first lane, a permitted entry everywhere
abbrev pub low_id : Id
low_id = record { x = 1; y = 1; z = 1 }

unfoldable pub checkpoint_wrong_of : Place → (n : ℕ) → Option Id → ℕ
checkpoint_wrong_of p n (Some i) = pick (tried_of n (permits_of p (st.Checkpoint i 1))) 2 1
checkpoint_wrong_of p n None = 1

unfoldable pub exit_wrong_of : Place → (n : ℕ) → Option Id → ℕ
exit_wrong_of p n (Some i) = pick (tried_of n (permits_of p (st.Exit i low_id))) 2 1
exit_wrong_of p n None = 1

unfoldable pub latitude_wrong_of : Place → (n : ℕ) → Id → Option ℤ → ℕ
latitude_wrong_of p n i (Some a) = pick (tried_of n (permits_of p (st.Point i a (pos 0)))) 2 1
latitude_wrong_of p n i None = 1

unfoldable pub point_wrong_of : Place → (n : ℕ) → Option Id → Option ℤ → ℕ
point_wrong_of p n (Some i) a = pick (tried_of n (permits_of p (st.Point i (pos 0) (pos 0)))) (latitude_wrong_of p n i a) 0
point_wrong_of p n None a = 0

-- of a kind: the others have one field behind their keyword
unfoldable pub rndf_wrong : Place → (n : ℕ) → Bytes → Fields → (kind : ℕ) → ℕ
rndf_wrong p n s f k =
    pick (eqb k 14) (checkpoint_wrong_of p n (triple_of (part s f.b)))
    (pick (eqb k 16) (exit_wrong_of p n (triple_of (part s f.b)))
    (pick (eqb k 29) (point_wrong_of p n (triple_of (part s f.a)) (the_coordinate_of (part s f.b))) 1))

-- by a table that is lent
module _ (table : List (List ℕ)) where
  abbrev pub rndf_kind_field : Bytes → Fields → Place → (n kind : ℕ) → ℕ
  rndf_kind_field = kind_field_of (judging table) rndf_wrong

  abbrev pub rndf_field_of : Bytes → Fields → Place → (n : ℕ) → ℕ
  rndf_field_of = field_of (judging table) rndf_wrong

  abbrev pub rndf_fields_column : Bytes → Place → (n : ℕ) → ℕ
  rndf_fields_column = fields_column_of (judging table) rndf_wrong

  abbrev pub rndf_content_column : Bytes → Place → (n : ℕ) → ℕ
  rndf_content_column = content_column_of (judging table) rndf_wrong

  -- of a line at a place
  abbrev pub rndf_line_column : Bytes → Place → (n : ℕ) → ℕ
  rndf_line_column = line_column_of (judging table) rndf_wrong

-- of line i of a text, with the refusal n: 0 where there is no such line, or the text is too long
unfoldable pub rndf_column_in : Bytes → (i n : ℕ) → ℕ
rndf_column_in text i n = if_too_long text 0 (line_columns rndf_judging rndf_wrong first_place 0 1 i n (lines_of text))
