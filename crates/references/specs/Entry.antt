-- Executable: the identifier that stands at a place of the text. Assumes nothing.
use Rattle.std.specs.Prelude.{ℕ, take, drop, Some, None, Option}
use Rattle.terms.specs.Ascii.{Bytes}
use Rattle.scan.specs.Reach.{up_to, fails}
use Rattle.number.specs.Executable.{triple_of}
use Rattle.number.specs.House.{number_byte}
use Rattle.number.specs.declared.Id.{Id}

-- what stands for an entry that is not there: it names no point, since its last number is 0
abbrev pub no_entry : Id
no_entry = record { x = 0; y = 0; z = 0 }

abbrev pub id_from_of : Option Id → Id
id_from_of (Some i) = i
id_from_of None = no_entry

-- the digits, points and signs from a place on; none where the place is beyond the text
unfoldable pub number_at : Bytes → ℕ → Bytes
number_at text at = take (up_to (fails number_byte) (drop at text)) (drop at text)

-- the identifier that they spell
unfoldable pub entry_at : Bytes → ℕ → Id
entry_at text at = id_from_of (triple_of (number_at text at))
