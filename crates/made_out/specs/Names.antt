-- Executable: a name by its start and length; the fields behind a keyword. Assumes nothing.
use Rattle.std.specs.Prelude.{List, [], ◌∷◌, length}
use Rattle.std.proofs.Math.Option.{Option, none, some}
use Rattle.terms.specs.Ascii.{Bytes}
use Rattle.line.specs.Content.{Field}
use Rattle.statement.specs.Meaning.{Stretch, stretch}

-- 01: "A name is its start and length in the lent text"
abbrev pub the_the_stretch_of : Field → Stretch
the_the_stretch_of f = stretch f.start (length f.bytes)

-- the fields behind a keyword; all of them where there is none
abbrev pub behind : Option Bytes → List Field → List Field
behind (some word) [] = []
behind (some word) (f ∷ fields) = fields
behind none fields = fields

abbrev pub told_as : {A B : Type 0} → (A → B) → Option A → Option B
told_as f none = none
told_as f (some a) = some (f a)
