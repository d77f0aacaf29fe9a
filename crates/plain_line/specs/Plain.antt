-- What a plain line says: its end is the line's, its last field starts where it is said to, and the judge makes of the line what it makes of the statement alone. Assumes nothing.
use Rattle.std.specs.Prelude.{◌≡◌, List, ℕ, ◌-◌, ◌≤◌, Some, None, Option}
use Rattle.terms.specs.Ascii.{Bytes}
use Rattle.scan.specs.Reach.{reach, stops_by}
use Rattle.scan.specs.declared.Until.TheVariants.{Byte}
use Rattle.line_fields.specs.LineFields.{line_fields_of, last_start_of}
use Rattle.statement.specs.declared.Statement.{Statement}
use Rattle.place.specs.declared.Place.{Place}
use Rattle.judge.specs.Judging.{Got, blank, line}
use Rattle.judge.specs.RndfLine.{judging}
use Rattle.plain_parts.specs.Stands.{stretch, LineEnds}
unfoldable pub use Rattle.plain_fields.specs.LineStands.{stated}
use Rattle.plain_line.specs.declared.Plain as DP
use Rattle.plain_line.specs.declared.Plain.TheVariants as Plain

-- the line that starts at a place ends at another, and gets so much, with every table and at every place
pub record LineGets (s : Bytes) (from stop : ℕ) (got : List (List ℕ) → Place → Got Statement Place) : Type 0 where
  pub ends : stop ≡ reach (stops_by (Byte 10)) s from
  pub gets : (table : List (List ℕ)) (p : Place) → line (judging table) (stretch s from stop) from p ≡ got table p

-- a line that starts at `from` and is known up to `stop` ends within 512 bytes
pub record EndsShort (s : Bytes) (from stop end : ℕ) : Type 0 where
  pub ends : LineEnds s stop end
  pub order : from ≤ end
  pub short : end - from ≤ 512

-- an end, told where the line has no more bytes than that
abbrev pub FewBytes : (from end : ℕ) → Option ℕ → Type 0
FewBytes from end (Some stop) = (stop ≡ end) × (from ≤ end) × (end - from ≤ 512)
FewBytes from end None = Unit {0}

abbrev pub ShortEnd : Bytes → ℕ → ℕ → Option ℕ → Type 0
ShortEnd s from stop (Some end) = EndsShort s from stop end
ShortEnd s from stop None = Unit {0}

abbrev pub PlainStands : Bytes → ℕ → DP.Plain → Type 0
PlainStands s from (Plain.Said k st stop last) = LineGets s from stop (λ table p. stated (judging table) k st p) × (last ≡ last_start_of (line_fields_of from (stretch s from stop)))
PlainStands s from (Plain.Blank stop) = LineGets s from stop (λ table p. blank)
PlainStands s from Plain.No = Unit {0}
