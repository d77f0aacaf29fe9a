-- WHAT A READER MUST BELIEVE. The packed form of a network: the rows of its tables as records; where names lie in it; and what 27 and 28 ask. Document 02, L11 and L12; docs/PACKED.md has the same as a table. Assumes nothing.
use Rattle.terms.specs.Words.{List, [], map, Option, none, some, ℕ, length, ℤ, pos, Bytes}
use mathlib.Core.List.{zip_with}
use Rattle.std.specs.Prelude.{negsuc, ◌≡◌, ◌∷◌, ◌++◌, ◌+◌, ◌-◌, ◌<◌}
use Rattle.line.specs.Line.{Field}
use Rattle.output.specs.Packed.{big_endian}
use Rattle.law.specs.Network.{Network}
use Rattle.law.specs.Tables.{gather, segment_rows, lane_rows_of, zone_rows, spot_rows, point_rows, checkpoint_rows, stop_rows, exit_rows}

-- ## What a record is made of
-- a number in so many bytes, the high one first; a latitude or longitude; a name
pub data Slot : Type 0 where
  figure : (size value : ℕ) → Slot
  angle : ℤ → Slot
  title : Option Field → Slot

-- a coordinate below 0 is told as so much less than 2 to the 32nd
abbrev pub unsigned : ℤ → ℕ
unsigned (pos m) = m
unsigned (negsuc m) = 4294967295 - m

-- L11: "each with its length first in two bytes, big-endian, names included": names are in the record and its length counts them; and a name too is its length in two bytes and then its bytes; a missing one has the length 0
abbrev pub slot_bytes : Slot → Bytes
slot_bytes (figure k n) = big_endian k n
slot_bytes (angle z) = big_endian 4 (unsigned z)
slot_bytes (title none) = big_endian 2 0
slot_bytes (title (some v)) = big_endian 2 (length v.bytes) ++ v.bytes

unfoldable pub laid : List Slot → Bytes
laid = gather slot_bytes

-- ## The records. L11: "The team fixes the fields of each record in docs/": the words of its table's row (law/specs/Tables), in so many bytes each; a name stands in place of its start and length
-- the records of each table, in 01's order: "Segment: first lane, lanes, name. Lane: first point, points, width, left and right .. Zone: first perimeter point, points, first spot (0 without spots), spots, name. Spot: first point, width. Point: latitude, longitude. Checkpoint: number, point. Stop: point. Exit: point, point." As many words of a row are taken as sizes are given
abbrev pub by_table : Network Field → List (List (List Slot))
by_table n =
    zip_with (λ row s. zip_with figure (4 ∷ 2 ∷ []) row ++ (title s.name ∷ [])) (segment_rows n) n.segments
    ∷ map (zip_with figure (4 ∷ 2 ∷ 2 ∷ 1 ∷ 1 ∷ [])) (lane_rows_of n)
    ∷ zip_with (λ row z. zip_with figure (4 ∷ 2 ∷ 4 ∷ 2 ∷ []) row ++ (title z.name ∷ [])) (zone_rows n) n.zones
    ∷ map (zip_with figure (4 ∷ 2 ∷ [])) (spot_rows n)
    ∷ map (map angle) (point_rows n)
    ∷ map (zip_with figure (2 ∷ 4 ∷ [])) (checkpoint_rows n)
    ∷ map (zip_with figure (4 ∷ [])) (stop_rows n)
    ∷ map (zip_with figure (4 ∷ 4 ∷ [])) (exit_rows n)
    ∷ []

-- 01: "File: its name, format version, creation date"; L12: "the house writing and the packed form leave it out", the date; before them how many rows each table has, four bytes each: nothing else parts one table from the next
abbrev pub file_slots : Network Field → List Slot
file_slots n = map (λ table. figure 4 (length table)) (by_table n) ++ map title (some n.name ∷ n.version ∷ [])

-- ## The form
-- L11: "records .., each with its length first in two bytes, big-endian": the count of the bytes that follow
abbrev pub with_length : List Slot → List Slot
with_length slots = figure 2 (length (laid slots)) ∷ slots

-- "then records in table order": the file's, then those of each table
unfoldable pub all_slots : Network Field → List Slot
all_slots n = gather with_length (file_slots n ∷ gather (λ table. table) (by_table n))

-- L11: "a version byte .. at the front"; L12: "The packed form's version byte becomes 2, and bytes of version 1 give 27 from then on."
abbrev pub this_version : ℕ
this_version = 2

-- "then the length of all that follows in four bytes, big-endian; then records"
unfoldable pub packed_form : Network Field → Bytes
packed_form n = this_version ∷ big_endian 4 (length (laid (all_slots n))) ++ laid (all_slots n)

-- ## Where names lie. L11: "Names then lie in the packed bytes": behind their length
-- slots, the first of which stands at this place of the bytes: each name starts where its bytes stand
abbrev pub LiesAt : (at : ℕ) → Slot → Type 0
LiesAt at (figure k n) = Unit {0}
LiesAt at (angle z) = Unit {0}
LiesAt at (title none) = Unit {0}
LiesAt at (title (some v)) = v.start ≡ at + 2

unfoldable pub NamesLie : (at : ℕ) → List Slot → Type 0
NamesLie at [] = Unit {0}
NamesLie at (s ∷ slots) = LiesAt at s × NamesLie (at + length (slot_bytes s)) slots

-- ## 27 and 28
-- not 27, "version not 1 or no bytes", by L12 not 2
pub record OfThisVersion (bytes : Bytes) : Type 0 where
  pub behind : Bytes
  pub is : bytes ≡ this_version ∷ behind

-- bytes that are records, each with its length first; none "runs past the end"
pub data AreRecords : Bytes → Type 0 where
  nothing : AreRecords []
  more : (this rest : Bytes) → length this < 65536 → AreRecords rest → AreRecords (big_endian 2 (length this) ++ (this ++ rest))

-- not 28, "the first length is cut short or not the count of bytes behind it, or a record runs past the end". The version is another matter
pub record LengthsRight (bytes : Bytes) : Type 0 where
  pub version : ℕ
  pub behind : Bytes
  pub is : bytes ≡ version ∷ big_endian 4 (length behind) ++ behind
  pub each : AreRecords behind
