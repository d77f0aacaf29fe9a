-- A plain line as a whole: its fields, and its end. Assumes nothing.
use mathlib.Core.Path.{◌≡◌, sym, ap, ◌∙◌}
use mathlib.Core.List.{[]}
use mathlib.Core.Bool.{true}
use Prim.Native.Nat.{ℕ, ◌≤◌}
use native.Mathlib.Omega.{arith}
use Rattle.terms.specs.Ascii.{Bytes}
use Rattle.scan.specs.Allowed.{separates, all}
use Rattle.line.proofs.Spelled.{fields-are}
use Rattle.line_fields.specs.LineFields.{last_start_of}
use Rattle.line_fields.proofs.LastField.{fields-of-line}
use Rattle.statement.specs.declared.Statement.{Statement}
use Rattle.judge.specs.RndfLine.{judging}
use Rattle.plain_parts.specs.Stands.{stretch}
use Rattle.plain_fields.specs.LineStands.{LineStands}
use Rattle.plain_fields.proofs.Fields.{line-stands}
use Rattle.plain_fields.proofs.Judged.{looked-at}
use Rattle.plain_line.specs.Fields.{Says}
use Rattle.plain_line.specs.Plain.{EndsShort, PlainStands}
use Rattle.plain_line.specs.declared.Plain.TheVariants as Plain
use Rattle.plain_line.proofs.Spelt.{whole, blank_line_of}
use Rattle.plain_line.proofs.Made.{told-said, told-blank}

pub line-blank : (s : Bytes) (from e : ℕ) → EndsShort s from from e → PlainStands s from (Plain.Blank e)
line-blank s from e h =
    let E = h.ends in
    let l : LineStands s from e [] = line-stands s from e [] (record { at = E.at; order = E.order; fielded = blank_line_of s from E.at E.blank; ends = E.ends }) h.short in
    record { ends = l.ends; gets = λ table p. looked-at (judging table) l p ∙ told-blank table l.fielded.outer from p (fields-are l.fielded.fielded) }

pub line-said : (s : Bytes) (from a stop e k : ℕ) (st : Statement) (last : ℕ) → from ≤ a → all separates (stretch s from a) ≡ true → Says s a stop k st last → EndsShort s from stop e → PlainStands s from (Plain.Said k st e last)
line-said s from a stop e k st last h b says end =
    let E = end.ends in
    let o = says.order in
    let m = says.inside in
    let order = E.order in
    let f = whole s from a stop E.at says.fields h (omega arith) order (omega arith) b says.spelled E.blank in
    let l : LineStands s from e says.fields = line-stands s from e says.fields (record { at = E.at; order = omega arith; fielded = f; ends = E.ends }) end.short in
    let fs = fields-are l.fielded.fielded in
    (record { ends = l.ends; gets = λ table p. looked-at (judging table) l p ∙ told-said table l.fielded.outer from p k st says.kind (says.of_kind_of l.fielded.outer from fs) (says.makes l.fielded.outer from fs) }, sym (ap last_start_of (fields-of-line l.ended l.fielded) ∙ says.lastly))
