-- What it means that lines begin a well-formed file, and that none begins with them and one more. Document 01, "Refusal numbers". Assumes nothing.
use Rattle.std.specs.Prelude.{List, ◌∷◌, ◌++◌}
use Rattle.terms.specs.Ascii.{Bytes}
use Rattle.line.specs.Text.{Cut}

-- for the texts that spell a network, or a mission
module _ {Net : Type 0} (Spells : Net → Bytes → Type 0) where
  -- 01: "'Well-formed' means spelled by the grammar": the lines are the first of a well-formed text
  pub record Begin (lines : List Bytes) : Type 0 where
    pub more : List Bytes
    pub text : Bytes
    pub made : Cut text (lines ++ more)
    pub net : Net
    pub spelled : Spells net text

  -- no well-formed text, of any length, has these lines first and then this one
  abbrev pub Hopeless : List Bytes → Bytes → Type 0
  Hopeless lines this = (text : Bytes) (more : List Bytes) (n : Net) → Cut text (lines ++ (this ∷ more)) → Spells n text → ⊥
