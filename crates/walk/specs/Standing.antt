-- Executable: where the statements of a text stand: one on each line that is not blank. Assumes nothing.
use Rattle.std.specs.Prelude.{List, [], ◌∷◌, Bool, true, false, ℕ, suc, ◌+◌, length}
use Rattle.terms.specs.Ascii.{Bytes}
use Rattle.line.specs.Content.{Field}
use Rattle.line.specs.Lines.{lines_of}
use Rattle.line_fields.specs.LineFields.{line_fields_of, last_start_of}

-- where the last field of a line starts in the text, and the line's number
pub record Where : Type 0 where
  pub last : ℕ
  pub line : ℕ

-- of a line that starts at a place of the text and has the number i
abbrev pub place : (start i : ℕ) → Bytes → Where
place start i line = record { last = last_start_of (line_fields_of start line); line = i }

abbrev pub some_field : List Field → Bool
some_field [] = false
some_field (f ∷ fields) = true

-- a line that has fields
unfoldable pub speaks : ℕ → Bytes → Bool
speaks start line = some_field (line_fields_of start line)

abbrev pub if_speaking : Bool → Where → List Where → List Where
if_speaking true w ws = w ∷ ws
if_speaking false w ws = ws

-- the lines that have fields, of lines the first of which starts at a place of the text and has the number i
unfoldable pub standing : ℕ → ℕ → List Bytes → List Where
standing start i [] = []
standing start i (l ∷ ls) = if_speaking (speaks start l) (place start i l) (standing (start + suc (length l)) (suc i) ls)

-- where the statements of a text stand
abbrev pub places_in : Bytes → List Where
places_in text = standing 0 1 (lines_of text)

-- what statements gather, one behind the other, each where it stands
unfoldable pub over : {T G : Type 0} → (Where → T → G → G) → List Where → List T → G → G
over f [] [] c = c
over f [] (t ∷ ts) c = c
over f (w ∷ ws) [] c = c
over f (w ∷ ws) (t ∷ ts) c = over f ws ts (f w t c)
