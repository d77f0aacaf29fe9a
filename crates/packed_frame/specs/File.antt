-- Executable: the file's record, behind version and length. Assumes nothing.
use Rattle.std.specs.Prelude.{◌+◌, Some, None, Option}
use Rattle.terms.specs.Words.{Bool, true, false, ℕ, eqb, Bytes, pick}
use Rattle.packed_rows.specs.Points.{four_at_of}
use Rattle.packed_frame.specs.Names.{two_at, no_name, name_size_of}
use Rattle.rows.specs.declared.Stretch.{Stretch}
use Rattle.rows.specs.declared.FileRow.{FileRow}
use Rattle.counts.specs.declared.Counts.{Counts}

abbrev pub counts : Bytes → Counts
counts b = record { segments = four_at_of b 7; lanes = four_at_of b 11; zones = four_at_of b 15; spots = four_at_of b 19; points = four_at_of b 23; checkpoints = four_at_of b 27; stops = four_at_of b 31; exits = four_at_of b 35 }

-- 01: "A name is its start and length ..; a missing name is 0, 0."
unfoldable pub the_the_stretch_of : (start size : ℕ) → Stretch
the_the_stretch_of start size = pick (eqb size 0) (record { start = 0; length = 0 }) (record { start = start; length = size })

-- where the lengths of its names stand, and the place behind it
abbrev pub first-at : ℕ
first-at = 39

abbrev pub behind_name : Bytes → ℕ → ℕ
behind_name b at = at + 2 + name_size_of b at

abbrev pub second_at : Bytes → ℕ
second_at b = behind_name b first-at

abbrev pub file_end : Bytes → ℕ
file_end b = behind_name b (second_at b)

-- the first name is there, the other is there or missing
unfoldable pub names_right : Bytes → Bool
names_right b = pick (eqb (name_size_of b first-at) 0) false (pick (eqb (name_size_of b first-at) no_name) false (pick (eqb (name_size_of b (second_at b)) no_name) false true))

-- L12: "Unpacking gives the network back but for the date": 0, 0
abbrev pub the_file_row_of : Bytes → FileRow
the_file_row_of b = record { name = the_the_stretch_of (first-at + 2) (name_size_of b first-at); version = the_the_stretch_of (second_at b + 2) (name_size_of b (second_at b)); date = record { start = 0; length = 0 } }

unfoldable pub file_at_of : Bytes → Option (Counts × FileRow × ℕ)
file_at_of b = pick (names_right b) (pick (eqb (two_at b 5 + 7) (file_end b)) (Some (counts b, the_file_row_of b, file_end b)) None) None
