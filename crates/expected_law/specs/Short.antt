-- Short names for parts of Expected's definitions, for the proofs. Assumes nothing.
use Rattle.std.specs.Prelude.{◌≡◌, ◌∷◌}
use Rattle.terms.specs.Words.{List, [], map, ℕ, Bytes, Among}
use Rattle.line.specs.Line.{Field}
use Rattle.law.specs.Network.{Rules, Said, Line, SpellsField, SpellFields}
use Rattle.law.specs.Network as Law
use Rattle.law.specs.Faults.{kind_of_field, Nth, Opens, FollowsStrictly, FollowsLeniently}
use Rattle.expected_law.specs.Expected.{Form, AllowsFields}

-- these fields are an instance of one of the forms
abbrev pub AllowsSome : List Form → List Field → Type 0
AllowsSome forms fields = (form : Form) × Among form forms × AllowsFields [] form fields

-- the field begins with a digit
abbrev pub Digit : Field → Type 0
Digit f = Opens f (Law.numbers [] ∷ [])

module _ (rules : Rules) {Net : Type 0} (Spells : Rules → Net → List Line → Type 0) (before : List Line) where
  -- a line of these fields is taken
  abbrev pub Taken : List Field → Type 0
  Taken fields = (l : Line) × SpellFields rules.edition fields l × FollowsStrictly rules Spells before l

  -- the i-th field of some line that may stand, with fields of the kinds of `line`
  abbrev pub Stands : (line : Line) (i : ℕ) → Field → Type 0
  Stands line i g = (l : Line) × (s : Said) × FollowsLeniently rules Spells before l × (map kind_of_field l ≡ map kind_of_field line) × Nth i s l × SpellsField rules.edition g s
