-- The keywords of an RNDF, those of an MDF, the boundary words with their numbers, and when a field begins
-- with a digit. Assumes nothing.
use Rattle.std.specs.Prelude.{◌≡◌, List, [], ◌∷◌, true, ℕ, ◌≤◌, ◌<◌, length, get_or}
use Prim.Native.Char.{code}
use Rattle.terms.specs.Ascii.{Bytes, ascii}
use Rattle.terms.specs.Words.{Between}
use Rattle.scan.specs.Allowed.{field_byte, all}

-- 01, "The order of an RNDF", and: "Any other first field is a keyword of that file, byte for byte, or the line gets 5". The words that an
-- RNDF's statements begin with. A keyword's number is its place here, from 0.
unfoldable pub rndf_keywords : List Bytes
rndf_keywords =
    ascii "RNDF_name" ∷ ascii "num_segments" ∷ ascii "num_zones" ∷ ascii "format_version" ∷ ascii "creation_date" ∷
    ascii "segment" ∷ ascii "num_lanes" ∷ ascii "segment_name" ∷ ascii "end_segment" ∷
    ascii "lane" ∷ ascii "num_waypoints" ∷ ascii "lane_width" ∷ ascii "left_boundary" ∷ ascii "right_boundary" ∷
    ascii "checkpoint" ∷ ascii "stop" ∷ ascii "exit" ∷ ascii "end_lane" ∷
    ascii "zone" ∷ ascii "num_spots" ∷ ascii "zone_name" ∷ ascii "end_zone" ∷
    ascii "perimeter" ∷ ascii "num_perimeterpoints" ∷ ascii "end_perimeter" ∷
    ascii "spot" ∷ ascii "spot_width" ∷ ascii "end_spot" ∷
    ascii "end_file" ∷ []

-- 01, "The order of an MDF": the words that an MDF's statements begin with, numbered likewise.
unfoldable pub mdf_keywords : List Bytes
mdf_keywords =
    ascii "MDF_name" ∷ ascii "RNDF" ∷ ascii "format_version" ∷ ascii "creation_date" ∷
    ascii "checkpoints" ∷ ascii "num_checkpoints" ∷ ascii "end_checkpoints" ∷
    ascii "speed_limits" ∷ ascii "num_speed_limits" ∷ ascii "end_speed_limits" ∷
    ascii "end_file" ∷ []

-- 01: "`left_boundary`, `right_boundary`, each of `double_yellow`, `solid_yellow`, `solid_white`, `broken_white`"
unfoldable pub boundary_words : List Bytes
boundary_words = ascii "double_yellow" ∷ ascii "solid_yellow" ∷ ascii "solid_white" ∷ ascii "broken_white" ∷ []

-- 01: "left and right (1 to 4 in the order above)": the word of a boundary's number, its one spelling and so its house writing.
-- No other number has a word.
unfoldable pub boundary_of : ℕ → Bytes
boundary_of n = get_or ([] ∷ boundary_words) n []

-- the word w is the boundary with the number n
pub record Boundary (n : ℕ) (w : Bytes) : Type 0 where
  pub number : Between 1 4 n
  pub word : w ≡ boundary_of n

-- 01: "A first field that begins with a digit makes a point line in an RNDF and, by its place, a goal or limit line in an MDF"
abbrev pub BeginsWithDigit : Bytes → Type 0
BeginsWithDigit [] = ⊥
BeginsWithDigit (b ∷ rest) = Between (code "0") (code "9") b

-- 01: "Outside comments the bytes are 33 to 126 and tab, but no backslash and no `*`", and "a separator shall be any run of tabs and spaces" (L3):
-- the word can be a field, for it has a byte, and each of its bytes can stand in a field; and it is short
pub record ShortField (w : Bytes) : Type 0 where
  pub some : 0 < length w
  pub short : length w ≤ 20
  pub allowed : all field_byte w ≡ true
