-- Executable: the column of a line at a place and of line i of a text, over a program's own statements and places, as law_columns/specs/Finding has it over the machine's. For every file. Assumes nothing.
use Rattle.std.specs.Prelude.{List, [], ◌∷◌, Bool, true, ◌||◌, ℕ, suc, ◌+◌, length, take, eqb, ltb}
use Rattle.terms.specs.Ascii.{Bytes}
use Rattle.terms.specs.Words.{pick}
use Rattle.scan.specs.Reach.{up_to}
use Rattle.line.specs.Lines.{trim_of}
use Rattle.line.specs.Forms.{opens, fields_in_of, part}
use Rattle.line.specs.declared.Fields.{Fields}
use Rattle.judge.specs.Judging.{Got, bad, blank, said, Judging, line}
use Rattle.law_columns.specs.Finding.{bad_at_of, listed_at}

-- where a field starts, of the first three
unfoldable pub span_start : Fields → ℕ → ℕ
span_start f i = pick (ltb i f.count) (pick (eqb i 0) f.a.start (pick (eqb i 1) f.b.start f.c.start)) 0

-- 8 looks at spellings alone; for 9 the values have to be permitted
abbrev pub tried_of : (n : ℕ) → Bool → Bool
tried_of n permitted = pick (eqb n 8) true permitted

-- wrong: the field at fault with 8 or 9, from 0, of a line of a kind that may stand at the place, by the refusal's number
module _ (J : Judging) (wrong : J.Pl → (n : ℕ) → Bytes → Fields → (kind : ℕ) → ℕ) where
  open J use {Pl, kinds, kind_of, cell, refuses, needs}

  unfoldable pub kind_field_of : Bytes → Fields → Pl → (n kind : ℕ) → ℕ
  kind_field_of s f p n k = pick (eqb (refuses p (cell p k)) 0) (pick (eqb f.count (needs k)) (wrong p n s f k) 0) 0

  unfoldable pub known_field_of : Bytes → Fields → Pl → (n kind : ℕ) → ℕ
  known_field_of s f p n k = pick (ltb k kinds) (kind_field_of s f p n k) 0

  unfoldable pub field_of : Bytes → Fields → Pl → ℕ → ℕ
  field_of s f p n = pick (eqb n 8 || eqb n 9) (known_field_of s f p n (kind_of p (part s f.a))) (listed_at n)

  -- of what stands before a comment; 0 where no field does
  unfoldable pub fields_column_of : Bytes → Pl → ℕ → ℕ
  fields_column_of s p n = pick (eqb (fields_in_of s).count 0) 0 (suc (span_start (fields_in_of s) (field_of s (fields_in_of s) p n)))

  unfoldable pub content_column_of : Bytes → Pl → ℕ → ℕ
  content_column_of s p n = pick (eqb n 2) 513 (pick (eqb n 3) (suc (up_to opens s)) (pick (eqb n 4) (suc (bad_at_of s)) (fields_column_of (take (up_to opens s) s) p n)))

  -- of a line at a place
  unfoldable pub line_column_of : Bytes → Pl → ℕ → ℕ
  line_column_of s p n = content_column_of (take (trim_of s) s) p n

  -- of line i of lines, the first of which starts at a place of the text and has the number j
  abbrev pub onward : Pl → Got J.St Pl → (Pl → ℕ) → ℕ
  onward p (bad n) k = 0
  onward p blank k = k p
  onward p (said s q) k = k q

  unfoldable pub line_columns : Pl → (start j i n : ℕ) → List Bytes → ℕ
  line_columns p start j i n [] = 0
  line_columns p start j i n (l ∷ ls) = pick (eqb j i) (line_column_of l p n) (onward p (line J l start p) (λ q. line_columns q (start + suc (length l)) (suc j) i n ls))
