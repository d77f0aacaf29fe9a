-- `plain_word::row_at` meets its contract: each arm is the row of its keyword. Assumes nothing.
use mathlib.Core.Path.{refl}
use lib.Dec.{lit<}
use Rattle.terms.specs.Ascii.{ascii}
use Rattle.word.specs.Keywords.{rndf_keywords}
use Rattle.word.specs.Packed.{packed}
use Rattle.plain_word.specs.Stands.{row_of}
use Rattle.plain_word.proofs.row_at.Goals as goal

-- src/lib.rt:27:1
pub returns-in-1 : goal.returns-in-1
unfolding row_of rndf_keywords ascii packed
returns-in-1 c = (record { known = lit< tt; holds = refl }, lit< tt)

-- src/lib.rt:27:1
pub returns-in-3 : goal.returns-in-3
unfolding row_of rndf_keywords ascii packed
returns-in-3 c = (record { known = lit< tt; holds = refl }, lit< tt)

-- src/lib.rt:27:1
pub returns-in-7 : goal.returns-in-7
unfolding row_of rndf_keywords ascii packed
returns-in-7 c = (record { known = lit< tt; holds = refl }, lit< tt)

-- src/lib.rt:27:1
pub returns-in-11 : goal.returns-in-11
unfolding row_of rndf_keywords ascii packed
returns-in-11 c = (record { known = lit< tt; holds = refl }, lit< tt)

-- src/lib.rt:27:1
pub returns-in-12 : goal.returns-in-12
unfolding row_of rndf_keywords ascii packed
returns-in-12 c = (record { known = lit< tt; holds = refl }, lit< tt)

-- src/lib.rt:27:1
pub returns-in-16 : goal.returns-in-16
unfolding row_of rndf_keywords ascii packed
returns-in-16 c = (record { known = lit< tt; holds = refl }, lit< tt)

-- src/lib.rt:27:1
pub returns-in-17 : goal.returns-in-17
unfolding row_of rndf_keywords ascii packed
returns-in-17 c = (record { known = lit< tt; holds = refl }, lit< tt)

-- src/lib.rt:27:1
pub returns-in-18 : goal.returns-in-18
unfolding row_of rndf_keywords ascii packed
returns-in-18 c = (record { known = lit< tt; holds = refl }, lit< tt)

-- src/lib.rt:27:1
pub returns-in-19 : goal.returns-in-19
unfolding row_of rndf_keywords ascii packed
returns-in-19 c = (record { known = lit< tt; holds = refl }, lit< tt)

-- src/lib.rt:27:1
pub returns-in-22 : goal.returns-in-22
unfolding row_of rndf_keywords ascii packed
returns-in-22 c = (record { known = lit< tt; holds = refl }, lit< tt)

-- src/lib.rt:27:1
pub returns-in-23 : goal.returns-in-23
unfolding row_of rndf_keywords ascii packed
returns-in-23 c = (record { known = lit< tt; holds = refl }, lit< tt)

-- src/lib.rt:27:1
pub returns-in-24 : goal.returns-in-24
unfolding row_of rndf_keywords ascii packed
returns-in-24 c = (record { known = lit< tt; holds = refl }, lit< tt)

-- src/lib.rt:27:1
pub returns-in-25 : goal.returns-in-25
unfolding row_of rndf_keywords ascii packed
returns-in-25 c = (record { known = lit< tt; holds = refl }, lit< tt)

-- src/lib.rt:27:1
pub returns-in-28 : goal.returns-in-28
unfolding row_of rndf_keywords ascii packed
returns-in-28 c = (record { known = lit< tt; holds = refl }, lit< tt)

-- src/lib.rt:27:1
pub returns-in-29 : goal.returns-in-29
unfolding row_of rndf_keywords ascii packed
returns-in-29 c = (record { known = lit< tt; holds = refl }, lit< tt)

-- src/lib.rt:27:1
pub returns-in-31 : goal.returns-in-31
unfolding row_of rndf_keywords ascii packed
returns-in-31 c = (record { known = lit< tt; holds = refl }, lit< tt)

-- src/lib.rt:27:1
pub returns-in-32 : goal.returns-in-32
unfolding row_of rndf_keywords ascii packed
returns-in-32 c = (record { known = lit< tt; holds = refl }, lit< tt)

-- src/lib.rt:27:1
pub returns-in-34 : goal.returns-in-34
unfolding row_of rndf_keywords ascii packed
returns-in-34 c = (record { known = lit< tt; holds = refl }, lit< tt)

-- src/lib.rt:27:1
pub returns-in-35 : goal.returns-in-35
unfolding row_of rndf_keywords ascii packed
returns-in-35 c = (record { known = lit< tt; holds = refl }, lit< tt)

-- src/lib.rt:27:1
pub returns-in-36 : goal.returns-in-36
unfolding row_of rndf_keywords ascii packed
returns-in-36 c = (record { known = lit< tt; holds = refl }, lit< tt)

-- src/lib.rt:27:1
pub returns-in-37 : goal.returns-in-37
unfolding row_of rndf_keywords ascii packed
returns-in-37 c = (record { known = lit< tt; holds = refl }, lit< tt)

-- src/lib.rt:27:1
pub returns-in-39 : goal.returns-in-39
unfolding row_of rndf_keywords ascii packed
returns-in-39 c = (record { known = lit< tt; holds = refl }, lit< tt)

-- src/lib.rt:27:1
pub returns-in-40 : goal.returns-in-40
unfolding row_of rndf_keywords ascii packed
returns-in-40 c = (record { known = lit< tt; holds = refl }, lit< tt)

-- src/lib.rt:27:1
pub returns-in-41 : goal.returns-in-41
unfolding row_of rndf_keywords ascii packed
returns-in-41 c = (record { known = lit< tt; holds = refl }, lit< tt)

-- src/lib.rt:27:1
pub returns-in-42 : goal.returns-in-42
unfolding row_of rndf_keywords ascii packed
returns-in-42 c = (record { known = lit< tt; holds = refl }, lit< tt)

-- src/lib.rt:27:1
pub returns-in-53 : goal.returns-in-53
unfolding row_of rndf_keywords ascii packed
returns-in-53 c = (record { known = lit< tt; holds = refl }, lit< tt)

-- src/lib.rt:27:1
pub returns-in-58 : goal.returns-in-58
unfolding row_of rndf_keywords ascii packed
returns-in-58 c = (record { known = lit< tt; holds = refl }, lit< tt)

-- src/lib.rt:27:1
pub returns-in-62 : goal.returns-in-62
unfolding row_of rndf_keywords ascii packed
returns-in-62 c = (record { known = lit< tt; holds = refl }, lit< tt)

-- src/lib.rt:27:1
pub returns-in_default : goal.returns-in_default
unfolding row_of rndf_keywords ascii packed
returns-in_default c = (record { known = lit< tt; holds = refl }, lit< tt)
