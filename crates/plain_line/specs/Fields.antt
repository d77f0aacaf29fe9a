-- Fields of a plain line as they stand in the text, and the statement that they make. Assumes nothing.
use Rattle.std.specs.Prelude.{◌≡◌, List, ◌∷◌, ◌++◌, true, false, ℕ, ◌≤◌, ◌<◌, length, get_or, eqb, Some, None, Option}
use Rattle.terms.specs.Ascii.{Bytes}
use Rattle.scan.specs.Allowed.{separates, all}
use Rattle.line.specs.Content.{Field, SpellsFields}
use Rattle.line.specs.Forms.{fields_at, fields_in_of, part}
use Rattle.line_fields.specs.LineFields.{last_of, last_start_of}
use Rattle.statement.specs.declared.Statement.{Statement}
use Rattle.made_out.specs.Made.{shapes, needs_of, made_of}
use Rattle.judge.specs.RndfLine.{rndf_kind}
use Rattle.plain_parts.specs.Stands.{stretch}

-- a stretch of the text that spells fields, whatever separators stand behind it
abbrev pub Spelt : Bytes → ℕ → ℕ → List Field → Type 0
Spelt s from stop fields = (blank : Bytes) → all separates blank ≡ true → SpellsFields from (stretch s from stop ++ blank) fields

-- the fields of a content, as the judge has them, make the statement of a kind
pub record Makes (content : Bytes) (base k : ℕ) (st : Statement) : Type 0 where
  pub some : eqb (fields_in_of content).count 0 ≡ false
  pub needed : eqb (fields_in_of content).count (needs_of (get_or shapes k 0)) ≡ true
  pub made : made_of content base (fields_in_of content) k ≡ Some st

-- the fields behind a keyword
pub record BehindIt (s : Bytes) (from stop k : ℕ) (st : Statement) (last : ℕ) : Type 0 where
  pub order : from < stop
  pub inside : stop ≤ length s
  pub fields : List Field
  pub spelled : Spelt s from stop fields
  pub makes : (content : Bytes) (base : ℕ) (word : Field) → fields_at base content ≡ word ∷ fields → Makes content base k st
  pub lastly : (word : Field) → (last_of word fields).start ≡ last

abbrev pub BehindStands : Bytes → ℕ → ℕ → Option (Statement × ℕ × ℕ) → Type 0
BehindStands s from k (Some (st, stop, last)) = BehindIt s from stop k st last
BehindStands s from k None = Unit {0}

-- all fields of a line
pub record Says (s : Bytes) (from stop k : ℕ) (st : Statement) (last : ℕ) : Type 0 where
  pub order : from < stop
  pub inside : stop ≤ length s
  pub kind : k < 30
  pub fields : List Field
  pub spelled : Spelt s from stop fields
  pub of_kind_of : (content : Bytes) (base : ℕ) → fields_at base content ≡ fields → rndf_kind (part content (fields_in_of content).a) ≡ k
  pub makes : (content : Bytes) (base : ℕ) → fields_at base content ≡ fields → Makes content base k st
  pub lastly : last_start_of fields ≡ last

abbrev pub FieldsStand : Bytes → ℕ → Option (ℕ × Statement × ℕ × ℕ) → Type 0
FieldsStand s from (Some (k, st, stop, last)) = Says s from stop k st last
FieldsStand s from None = Unit {0}
