-- Executable: numbers of two bytes, names, and records that end with a name. Assumes nothing.
use Rattle.terms.specs.Words.{ℕ, leb, eqb, length, take, drop, Bytes, pick}
use Rattle.std.specs.Prelude.{get_or, ◌+◌, Option, Some, None}
use Rattle.scan.specs.Allowed.{field_byte, all}
use Rattle.packed_rows.specs.Walk.{two}

-- a number of two bytes, the high one first; 0 where they are not there
unfoldable pub two_at : Bytes → ℕ → ℕ
two_at b at = pick (leb (at + 2) (length b)) (two (get_or b at 0) (get_or b (at + 1) 0)) 0

-- what is answered where no name stands
abbrev pub no_name : ℕ
no_name = 129

-- 01: "Name: 1 to 128 bytes", each of which may stand in a field. The length of the name at this place, behind its two bytes of length; 0 where it is missing
unfoldable pub name_size_of : Bytes → ℕ → ℕ
name_size_of b at = pick (leb (at + 2) (length b)) (pick (leb (two_at b at) 128) (pick (leb (at + 2 + two_at b at) (length b)) (pick (all field_byte (take (two_at b at) (drop (at + 2) b))) (two_at b at) no_name) no_name) no_name) no_name

-- the place behind a record of so many bytes and then a name; 0 where none stands here
abbrev pub with_name_of : (size : ℕ) → Bytes → (at name : ℕ) → ℕ
with_name_of size b at name = pick (eqb name no_name) 0 (pick (eqb (two_at b at) (size + 2 + name)) (at + (size + 2) + 2 + name) 0)

unfoldable pub named_end : ℕ → Bytes → ℕ → ℕ
named_end size b at = pick (leb (at + (size + 2)) (length b)) (with_name_of size b at (name_size_of b (at + (size + 2)))) 0

-- what code answers: none where no name stands
abbrev pub size_or_none : ℕ → Option ℕ
size_or_none n = pick (eqb n no_name) None (Some n)

-- none where no record stands
abbrev pub place_or_none : ℕ → Option ℕ
place_or_none n = pick (eqb n 0) None (Some n)
