-- Executable: the form of a line's content (2, 3, 4, or where its fields end) and its fields. Assumes nothing.
use Rattle.std.specs.Prelude.{List, [], ◌∷◌, Bool, true, false, ◌&&◌, ℕ, zero, suc, ◌+◌, ◌-◌, ◌≤◌, length, take, drop, ltb, leb, Ok, Err, Result}
use Prim.Native.Char.{code}
use Rattle.terms.specs.Ascii.{Bytes}
use Rattle.terms.specs.Words.{pick}
use Rattle.scan.specs.Allowed.{separates, outside, inside, all}
use Rattle.scan.specs.Reach.{two, up_to, reach, stops_by}
use Rattle.scan.specs.declared.Until.TheVariants.{Two, Separator, NotSeparator}
use Rattle.line.specs.Content.{Field, at, longest}
pub use Rattle.line.specs.Cutting.{glue}
unfoldable pub use Rattle.line.specs.Cutting.{outer_of, fields_at}
use Rattle.line.specs.declared.Span.{Span}
use Rattle.line.specs.declared.Fields.{Fields}

-- ## Comments
abbrev pub opens : Bytes → Bool
opens = stops_by (Two (code "/") (code "*"))

abbrev pub shuts : Bytes → Bool
shuts = stops_by (Two (code "*") (code "/"))

-- from the first `/*` on
unfoldable pub note_of : Bytes → Bytes
note_of [] = []
note_of (b ∷ rest) = pick (two (code "/") (code "*") (b ∷ rest)) (b ∷ rest) (note_of rest)

-- behind the opening: the first `*/`, and nothing but separators behind it
unfoldable pub closes : Bytes → Bool
closes [] = false
closes (b ∷ rest) = pick (two (code "*") (code "/") (b ∷ rest)) (all separates (drop 1 rest)) (closes rest)

abbrev pub closed_note : Bytes → Bool
closed_note [] = true
closed_note (b ∷ rest) = closes (drop 1 rest)

-- no comment, or a closed one
abbrev pub shut : Bytes → Bool
shut content = closed_note (note_of content)

-- every byte allowed where it stands
abbrev pub clean : Bytes → Bool
clean content = all outside (outer_of content) && all inside (note_of content)

-- ## The form
unfoldable pub form_of : Bytes → Result ℕ ℕ
form_of content = pick (leb (length content) longest) (pick (shut content) (pick (clean content) (Ok (up_to opens content)) (Err 4)) (Err 3)) (Err 2)

-- ## The fields
-- the first field from a place on; an empty stretch where there is none
unfoldable pub span_at_of : Bytes → ℕ → Span
span_at_of s from =
    let a = reach (stops_by NotSeparator) s from in
    record { start = a; stop = reach (stops_by Separator) s a }

abbrev pub filled : Span → Bool
filled f = ltb f.start f.stop

unfoldable pub count_of : Span → Span → Span → Span → ℕ
count_of a b c d = pick (filled a) (pick (filled b) (pick (filled c) (pick (filled d) 4 3) 2) 1) 0

-- the first three, and how many there are, 4 for more than three
unfoldable pub fields_in_of : Bytes → Fields
fields_in_of s =
    let a = span_at_of s 0 in
    let b = span_at_of s a.stop in
    let c = span_at_of s b.stop in
    let d = span_at_of s c.stop in
    record { count = count_of a b c d; a = a; b = b; c = c }

-- ## What the answer of `fields_of` stands for
abbrev pub part : Bytes → Span → Bytes
part s f = take (f.stop - f.start) (drop f.start s)

-- a stretch of s, as a field, where s starts at a place of the text
abbrev pub field_in : ℕ → Bytes → Span → Field
field_in start s f = at (start + f.start) (part s f)

abbrev pub listed : ℕ → Bytes → Fields → ℕ → List Field
listed start s r zero = []
listed start s r (suc zero) = field_in start s r.a ∷ []
listed start s r (suc (suc zero)) = field_in start s r.a ∷ field_in start s r.b ∷ []
listed start s r (suc (suc (suc zero))) = field_in start s r.a ∷ field_in start s r.b ∷ field_in start s r.c ∷ []
listed start s r (suc (suc (suc (suc k)))) = field_in start s r.a ∷ field_in start s r.b ∷ field_in start s r.c ∷ fields_at (start + r.c.stop) (drop r.c.stop s)

-- a stretch lies within s
pub record SpanWithin (s : Bytes) (f : Span) : Type 0 where
  pub order : f.start ≤ f.stop
  pub inside : f.stop ≤ length s

pub record FieldsWithin (s : Bytes) (r : Fields) : Type 0 where
  pub first : SpanWithin s r.a
  pub second : SpanWithin s r.b
  pub third : SpanWithin s r.c
