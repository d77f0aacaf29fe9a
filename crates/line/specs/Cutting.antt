-- WHAT A READER MUST BELIEVE. The lines of a text and the fields of any line, whatever its bytes, as functions: for mending (L9). Of good lines they are Line's (proofs/Cuts, Ends, Spelled). Assumes nothing.
use Rattle.std.specs.Prelude.{◌∷◌}
use Rattle.terms.specs.Words.{List, [], Bool, true, false, ℕ, suc, code, eqb, Bytes, pick}
use Rattle.scan.specs.Allowed.{separates}
use Rattle.scan.specs.Begins.{two}
use Rattle.line.specs.Line.{lf, cr, Field, parted}

-- a byte in front of the first line
abbrev pub onto : ℕ → List Bytes → List Bytes
onto b [] = (b ∷ []) ∷ []
onto b (l ∷ lines) = (b ∷ l) ∷ lines

-- 01: "A text is cut at each LF."
unfoldable pub lines_of : Bytes → List Bytes
lines_of [] = []
lines_of (b ∷ text) = pick (eqb b lf) ([] ∷ lines_of text) (onto b (lines_of text))

-- 01: "One CR as a line's last byte is dropped."
unfoldable pub drop_cr : Bytes → Bytes
drop_cr [] = []
drop_cr (b ∷ []) = pick (eqb b cr) [] (b ∷ [])
drop_cr (b ∷ d ∷ rest) = b ∷ drop_cr (d ∷ rest)

-- what stands before the first `/*`
unfoldable pub outer_of : Bytes → Bytes
outer_of [] = []
outer_of (b ∷ rest) = pick (two (code "/") (code "*") (b ∷ rest)) [] (b ∷ outer_of rest)

-- a byte in front: a field of its own, or of the next field
abbrev pub glue : Bool → ℕ → ℕ → List Field → List Field
glue true start b fields = record { start = start; bytes = b ∷ [] } ∷ fields
glue false start b [] = record { start = start; bytes = b ∷ [] } ∷ []
glue false start b (f ∷ fields) = record { start = start; bytes = b ∷ f.bytes } ∷ fields

-- the fields in bytes, the first of which stands at the place `start`
unfoldable pub fields_at : ℕ → Bytes → List Field
fields_at start [] = []
fields_at start (b ∷ rest) = pick (separates b) (fields_at (suc start) rest) (glue (parted separates rest) start b (fields_at (suc start) rest))
