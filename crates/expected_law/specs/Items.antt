-- Executable: the items of fields and the forms of some lines, which more than one place has. Assumes nothing.
use Rattle.std.specs.Prelude.{List, [], ◌∷◌, ℕ}
use Prim.Native.String.{String}
use Rattle.terms.specs.Ascii.{ascii}
use Rattle.law.specs.Network.{Edition, largest}
use Rattle.law.specs.Network as Law
use Rattle.expected_law.specs.Expected.{Item, this, a_name, numbers, ceiling, degrees, one_of, Form}

-- ## Items
abbrev pub from_to : ℕ → ℕ → Item
from_to a b = numbers (ascii "NUMBER") ((a, b) ∷ [])

abbrev pub counted : Item
counted = from_to 1 largest

-- the part m.n; its points from a to b
abbrev pub the_the_part_of : (m n : ℕ) → Item
the_the_part_of m n = numbers (ascii "PART") ((m, m) ∷ (n, n) ∷ [])

abbrev pub own : (m n a b : ℕ) → Item
own m n a b = numbers (ascii "POINT") ((m, m) ∷ (n, n) ∷ (a, b) ∷ [])

-- an entry, y from `low` on
abbrev pub an_entry : (low : ℕ) → Item
an_entry low = numbers (ascii "ENTRY") ((1, largest) ∷ (low, largest) ∷ (1, largest) ∷ [])

-- ## Forms
abbrev pub keyed : String → Form → Form
keyed w is = this (ascii w) ∷ is

abbrev pub point_form : (m n i : ℕ) → Form
point_form m n i = own m n i i ∷ degrees 90000000 ∷ degrees 180000000 ∷ []

abbrev pub boundaries : Edition → Item
boundaries e = one_of (Law.boundaries e)

-- how few spots a zone may have
abbrev pub fewest : Edition → ℕ
fewest e = Law.fewest_spots e

abbrev pub file_forms : List Form
file_forms = keyed "format_version" (a_name ∷ []) ∷ keyed "creation_date" (a_name ∷ []) ∷ []

-- a limit: its id, minimum and maximum
abbrev pub an_id : Item
an_id = numbers (ascii "ID") ((1, largest) ∷ [])

abbrev pub a_minimum : Item
a_minimum = numbers (ascii "MINIMUM") ((0, largest) ∷ [])

abbrev pub limit_form : Form
limit_form = an_id ∷ a_minimum ∷ ceiling ∷ []
