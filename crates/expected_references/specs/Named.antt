-- Executable: what the lines of an RNDF and of an MDF name, by their first fields: no line is judged, so of texts that are not well-formed nothing is promised (`expected_named` is of those that are). Assumes nothing.
use Rattle.std.specs.Prelude.{List, [], ◌∷◌, Bool, true, false, ◌||◌, ℕ, zero, suc, ◌-◌, take, eqb, ltb, Some, None, Option}
use Rattle.terms.specs.Ascii.{Bytes}
use Rattle.terms.specs.Words.{pick}
use Rattle.line.specs.Lines.{lines_of}
use Rattle.line.specs.Forms.{fields_in_of, part}
use Rattle.line.specs.declared.Span.{Span}
use Rattle.line.specs.declared.Fields.{Fields}
use Rattle.number.specs.Executable.{the_integer_of, triple_of}
use Rattle.number.specs.declared.Id.{Id}
use Rattle.law.specs.Network.{PointId}
use Rattle.fill.specs.FirstFaults.{is_among}
use Rattle.refusal.specs.Size.{if_too_long}
use Rattle.shown.specs.Shown.{line_in}
use Rattle.find_line.specs.FoundLines.{fields_end_of, rndf_line_kind_of, mdf_line_kind_of}

-- ## Fields of a line, without its LF
abbrev pub span_of : Fields → ℕ → Span
span_of f i = pick (eqb i 0) f.a (pick (eqb i 1) f.b f.c)

-- what stands before its CR and before a comment
abbrev pub body_of : Bytes → Bytes
body_of l = take (fields_end_of l) l

-- the field with this number, 0 to 2; empty where there is none
unfoldable pub field_on_of : ℕ → Bytes → Bytes
field_on_of i l = part (body_of l) (span_of (fields_in_of (body_of l)) i)

abbrev pub id_of : Option Id → Id
id_of (Some i) = i
id_of None = record { x = 0; y = 0; z = 0 }

abbrev pub point_of : Id → PointId
point_of i = record { x = i.x; y = i.y; z = i.z }

abbrev pub number_in : Option ℕ → ℕ
number_in (Some n) = n
number_in None = 0

unfoldable pub number_on_of : ℕ → Bytes → ℕ
number_on_of i l = number_in (the_integer_of (field_on_of i l))

-- ## 12: the parts, each by its last point
-- the point of a line that has one, else that of the lines before
unfoldable pub kept_id_of : Id → Bytes → Id
kept_id_of last l = pick (eqb (rndf_line_kind_of l) 29) (id_of (triple_of (field_on_of 0 l))) last

-- the line ends a lane, or, where y may be 0, a perimeter
unfoldable pub ends_part_of : (low : ℕ) → Bytes → Bool
ends_part_of low l = pick (eqb (rndf_line_kind_of l) 17) true (pick (eqb (rndf_line_kind_of l) 24) (eqb low 0) false)

unfoldable pub parts_from : (low : ℕ) → Id → List Bytes → List PointId
parts_from low last [] = []
parts_from low last (l ∷ lines) =
    let kept = kept_id_of last l in
    pick (ends_part_of low l) (point_of kept ∷ parts_from low kept lines) (parts_from low kept lines)

-- from which y on the entry may be of the exit on this line: 1 of a perimeter's
unfoldable pub low_in_of : Bytes → (line : ℕ) → ℕ
low_in_of rndf line = pick (eqb (id_of (triple_of (field_on_of 1 (line_in rndf line)))).y 0) 1 0

abbrev pub no_id : Id
no_id = record { x = 0; y = 0; z = 0 }

unfoldable pub entries_in : Bytes → (line : ℕ) → List PointId
entries_in rndf line = if_too_long rndf [] (parts_from (low_in_of rndf line) no_id (lines_of rndf))

-- ## 14: the name, on the first line that names the RNDF
unfoldable pub name_on : List Bytes → Bytes
name_on [] = []
name_on (l ∷ lines) = pick (eqb (rndf_line_kind_of l) 0) (field_on_of 1 l) (name_on lines)

unfoldable pub name_in_of : Bytes → Bytes
name_in_of rndf = name_on (lines_of rndf)

-- ## 15: the numbers of the checkpoints
unfoldable pub checkpoint_numbers : List Bytes → List ℕ
checkpoint_numbers [] = []
checkpoint_numbers (l ∷ lines) = pick (eqb (rndf_line_kind_of l) 14) (number_on_of 2 l ∷ checkpoint_numbers lines) (checkpoint_numbers lines)

unfoldable pub goals_in : Bytes → List ℕ
goals_in rndf = if_too_long rndf [] (checkpoint_numbers (lines_of rndf))

-- ## 16 to 18: the ids without a limit
unfoldable pub is_part_of : Bytes → Bool
is_part_of l = eqb (rndf_line_kind_of l) 5 || eqb (rndf_line_kind_of l) 18

-- segments and zones, behind so many; no id is above 32,768
unfoldable pub with_part_of : ℕ → Bytes → ℕ
with_part_of n l = pick (ltb 32767 n) n (pick (is_part_of l) (suc n) n)

unfoldable pub parts_behind : ℕ → List Bytes → ℕ
parts_behind n [] = n
parts_behind n (l ∷ lines) = parts_behind (with_part_of n l) lines

unfoldable pub ids_in : Bytes → ℕ
ids_in rndf = parts_behind 0 (lines_of rndf)

-- the ids that limits name
unfoldable pub limit_ids : List Bytes → List ℕ
limit_ids [] = []
limit_ids (l ∷ lines) = pick (eqb (mdf_line_kind_of l) 12) (number_on_of 0 l ∷ limit_ids lines) (limit_ids lines)

-- so many ids behind this one, but those that are given
unfoldable pub ids_behind : (given : List ℕ) → ℕ → ℕ → List ℕ
ids_behind given i zero = []
ids_behind given i (suc k) = pick (is_among (suc i) given) (ids_behind given (suc i) k) (suc i ∷ ids_behind given (suc i) k)

unfoldable pub unlimited_in : (rndf mdf : Bytes) (line : ℕ) → List ℕ
unlimited_in rndf mdf line = ids_behind (limit_ids (take (line - 1) (lines_of mdf))) 0 (ids_in rndf)
