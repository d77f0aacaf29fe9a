-- Executable: the fields of a line, and where the last of them starts in the text. Assumes nothing.
use Rattle.std.specs.Prelude.{List, [], ◌∷◌, ℕ, take, Ok, Err, Result}
use Rattle.terms.specs.Ascii.{Bytes}
use Rattle.line.specs.Content.{Field}
use Rattle.line.specs.Lines.{drop_cr}
use Rattle.line.specs.Forms.{form_of, fields_at}

-- of a content that starts at a place of the text: those before a comment; none where its form is refused
abbrev pub fields_by : ℕ → Bytes → Result ℕ ℕ → List Field
fields_by start content (Err n) = []
fields_by start content (Ok e) = fields_at start (take e content)

-- of a line that starts there
unfoldable pub line_fields_of : ℕ → Bytes → List Field
line_fields_of start line = fields_by start (drop_cr line) (form_of (drop_cr line))

-- the last of a field and those behind it
unfoldable pub last_of : Field → List Field → Field
last_of f [] = f
last_of f (g ∷ fields) = last_of g fields

-- where the last field starts; 0 where there is none
abbrev pub last_start_of : List Field → ℕ
last_start_of [] = 0
last_start_of (f ∷ fields) = (last_of f fields).start
