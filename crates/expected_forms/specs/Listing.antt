-- Executable: the words of a list that is put form by form, and what stands behind it. Assumes nothing.
use Rattle.std.specs.Prelude.{◌≡◌, List, [], ◌∷◌, ◌++◌, Bool, true, false, ℕ, eqb}
use Rattle.terms.specs.Ascii.{Bytes, ascii}
use Rattle.terms.specs.Words.{pick}
use Rattle.number.specs.House.{house_integer}
use Rattle.output.specs.Pen.{Pen, Wrote}
use Rattle.expected_law.specs.Expected.{Form}
use Rattle.expected_law.specs.Telling.{form_words, owed_words}

-- what stands before one form more, where there are some already
unfoldable pub leading_comma : (some : Bool) → Bytes
leading_comma some = pick some (ascii ", ") []

-- these forms, behind some or none
unfoldable pub also_words : (some : Bool) → List Form → Bytes
also_words some [] = []
also_words some (form ∷ forms) = leading_comma some ++ (form_words form ++ also_words true forms)

-- whether there are some then
unfoldable pub some_then : (some : Bool) → List Form → Bool
some_then some [] = some
some_then some (form ∷ forms) = true

-- these forms were put: from one pen, with some or none before, to another, with some or none then
pub record Lists (p : Pen) (some : Bool) (forms : List Form) (q : Pen) (then_some : Bool) : Type 0 where
  pub wrote : Wrote p (also_words some forms) q
  pub are : then_some ≡ some_then some forms

-- behind the list; nothing is listed behind `end_file`
unfoldable pub list_end : (some : Bool) (owed : ℕ) → Bytes
list_end some owed = pick some (owed_words owed) (ascii "nothing but blank lines and comments, for the file has ended")

-- ` (3 fields)`
unfoldable pub field_count : ℕ → Bytes
field_count n = ascii " (" ++ (house_integer n ++ pick (eqb n 1) (ascii " field)") (ascii " fields)"))
