-- Executable: a row of options, each with its form. Assumes nothing.
use Rattle.std.specs.Prelude.{List, [], ◌∷◌, Bool}
use Rattle.grammar.specs.Language.{Lang}
use Rattle.grammar.specs.Machine.{Opt}
use Rattle.grammar.specs.Forms.{Form, tested}

-- an option: may it come once only, and its form
pub record Choice (Kind : Type 0) (Pay : Kind → Type 0) : Type 1 where
  pub on : Kind
  pub once : Bool
  pub form : Form (Pay on)

module _ (L : Lang) where
  open L use {Kind, Pay}

  abbrev pub opt : Choice Kind Pay → Opt Kind Pay
  opt o = record { on = o.on; once = o.once; test = tested o.form }

  abbrev pub opts : List (Choice Kind Pay) → List (Opt Kind Pay)
  opts [] = []
  opts (o ∷ row) = opt o ∷ opts row
