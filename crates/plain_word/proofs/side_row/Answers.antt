-- `plain_word::side_row` meets its contract: each arm is the row of its boundary word. Assumes nothing.
use mathlib.Core.Path.{refl}
use lib.Dec.{lit<}
use Rattle.terms.specs.Ascii.{ascii}
use Rattle.word.specs.Keywords.{boundary_words, boundary_of}
use Rattle.word.specs.Packed.{packed}
use Rattle.plain_word.specs.Stands.{row_of}
use Rattle.plain_word.proofs.side_row.Goals as goal

-- src/lib.rt:68:1
pub returns-in-121 : goal.returns-in-121
unfolding row_of boundary_words boundary_of ascii packed
returns-in-121 c = (record { known = lit< tt; holds = refl }, lit< tt, lit< tt)

-- src/lib.rt:68:1
pub returns-in-101 : goal.returns-in-101
unfolding row_of boundary_words boundary_of ascii packed
returns-in-101 c = (record { known = lit< tt; holds = refl }, lit< tt, lit< tt)

-- src/lib.rt:68:1
pub returns-in-104 : goal.returns-in-104
unfolding row_of boundary_words boundary_of ascii packed
returns-in-104 c = (record { known = lit< tt; holds = refl }, lit< tt, lit< tt)

-- src/lib.rt:68:1
pub returns-in_default : goal.returns-in_default
unfolding row_of boundary_words boundary_of ascii packed
returns-in_default c = (record { known = lit< tt; holds = refl }, lit< tt, lit< tt)
