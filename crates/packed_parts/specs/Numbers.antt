-- Executable: records of checkpoints, whose numbers are in range and different. Assumes nothing.
use Rattle.std.specs.Prelude.{◌∷◌, ◌++◌, ◌+◌, ◌/◌}
use Rattle.terms.specs.Words.{List, [], Bool, true, false, not, ℕ, zero, suc, drop, Bytes, pick}
use Rattle.units.specs.Made.{within}
use Rattle.fill.specs.FirstFaults.{is_among}
use Rattle.marks.specs.Marks.{Marks, is_marked_of}
use Rattle.packed_rows.specs.Fixed.{record_here}
use Rattle.packed_rows.specs.Points.{four_at_of}

-- the number of the checkpoint whose record stands at this place
abbrev pub number_at : Bytes → ℕ → ℕ
number_at b at = four_at_of b (at + 2) / 65536

-- a record of a checkpoint stands at this place, with a number from 1 to 32,768 that was not there before. there: is this number there?
unfoldable pub number_right : Bytes → ℕ → (ℕ → Bool) → Bool
number_right b at there = pick (record_here 6 (drop at b)) (pick (within 1 (number_at b at)) (not (there (number_at b at))) false) false

-- as the marks tell
abbrev pub number_new : Bytes → ℕ → Marks → Bool
number_new b at marks = number_right b at (is_marked_of marks)

-- so many of them, behind those of these numbers
unfoldable pub numbers_right : ℕ → Bytes → ℕ → List ℕ → Bool
numbers_right zero b at front = true
numbers_right (suc k) b at front = pick (number_right b at (λ a. is_among a front)) (numbers_right k b (at + 8) (front ++ (number_at b at ∷ []))) false
