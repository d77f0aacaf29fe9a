-- What each answer says of the text that it was read from: the stretch from a place up to the place that is answered spells the value. `None` says nothing. Assumes nothing.
use Rattle.std.specs.Prelude.{◌≡◌, List, [], ◌∷◌, ◌++◌, Bool, true, false, ◌&&◌, ◌⊎◌, ℕ, ◌+◌, ◌-◌, ◌*◌, ◌≤◌, ◌<◌, length, take, drop, get_or, eqb, ℤ, Some, None, Option}
use Prim.Native.Char.{code}
use Rattle.terms.specs.Ascii.{Bytes}
use Rattle.number.specs.Spelling.{SpellsInteger, SpellsPair, SpellsTriple}
use Rattle.terms.specs.Ascii.{ascii}
use Rattle.terms.specs.Words.{pick}
use Rattle.number.specs.Decimal.{decimal, padded}
use Rattle.coordinate.specs.Spelling.{SpellsCoordinate}
use Rattle.scan.specs.Allowed.{separates, field_byte, all}
use Rattle.scan.specs.Reach.{other}
use Rattle.line.specs.Content.{Comment}

-- the bytes of a text from a place up to another
abbrev pub stretch : Bytes → ℕ → ℕ → Bytes
stretch s from stop = take (stop - from) (drop from s)

-- a stretch of the text, with at least one byte, is so
pub record Stands (s : Bytes) (from stop : ℕ) (Is : Bytes → Type 0) : Type 0 where
  pub order : from < stop
  pub inside : stop ≤ length s
  pub spelled : Is (stretch s from stop)

abbrev pub IntegerStands : Bytes → ℕ → Option (ℕ × ℕ) → Type 0
IntegerStands s from (Some (v, stop)) = Stands s from stop (λ w. SpellsInteger w v)
IntegerStands s from None = Unit {0}

abbrev pub DotStands : Bytes → ℕ → Bool → Type 0
DotStands s at true = (at < length s) × (get_or s at 0 ≡ code ".")
DotStands s at false = Unit {0}

abbrev pub PairStands : Bytes → ℕ → Option (ℕ × ℕ × ℕ) → Type 0
PairStands s from (Some (m, n, stop)) = Stands s from stop (λ w. SpellsPair w m n)
PairStands s from None = Unit {0}

abbrev pub TripleStands : Bytes → ℕ → Option (ℕ × ℕ × ℕ × ℕ) → Type 0
TripleStands s from (Some (x, y, z, stop)) = Stands s from stop (λ w. SpellsTriple w x y z)
TripleStands s from None = Unit {0}

-- six digits
abbrev pub SixStand : Bytes → ℕ → Option ℕ → Type 0
SixStand s from (Some n) = (n ≤ 999999) × (from + 6 ≤ length s) × (stretch s from (from + 6) ≡ padded 6 n)
SixStand s from None = Unit {0}

-- a coordinate without its sign
pub record SpellsDegrees (field : Bytes) (count : ℕ) : Type 0 where
  pub degrees : ℕ
  pub millionths : ℕ
  pub three_digits : degrees ≤ 999
  pub six_digits : millionths ≤ 999999
  pub spelled : field ≡ decimal degrees ++ (code "." ∷ padded 6 millionths)
  pub counted : count ≡ degrees * 1000000 + millionths

abbrev pub DegreesStand : Bytes → ℕ → Option (ℕ × ℕ) → Type 0
DegreesStand s from (Some (m, stop)) = Stands s from stop (λ w. SpellsDegrees w m)
DegreesStand s from None = Unit {0}

abbrev pub behind_minus_of : Bytes → ℕ → ℕ
behind_minus_of s from = pick (eqb (get_or s from 0) (code "-")) (from + 1) from

abbrev pub CoordinateStands : Bytes → ℕ → Option (ℤ × ℕ) → Type 0
CoordinateStands s from (Some (z, stop)) = Stands s from stop (λ w. SpellsCoordinate w z)
CoordinateStands s from None = Unit {0}

-- one separator or more
abbrev pub GapStands : Bytes → ℕ → Option ℕ → Type 0
GapStands s from (Some stop) = Stands s from stop (λ w. all separates w ≡ true)
GapStands s from None = Unit {0}

-- the two bytes with which a comment opens
abbrev pub OpeningStands : Bytes → ℕ → Bool → Type 0
OpeningStands s at true = (at + 2 ≤ length s) × (stretch s at (at + 2) ≡ ascii "/*")
OpeningStands s at false = Unit {0}

-- a comment, and what separates behind it
abbrev pub CommentStands : Bytes → ℕ → Option ℕ → Type 0
CommentStands s from (Some stop) = Stands s from stop Comment
CommentStands s from None = Unit {0}

-- perhaps one CR; then an LF or the text's end
pub record BareEnds (s : Bytes) (from stop : ℕ) : Type 0 where
  pub order : from ≤ stop
  pub inside : stop ≤ length s
  pub cr : (stretch s from stop ≡ []) ⊎ (stretch s from stop ≡ code "\r" ∷ [])
  pub last : (stop ≡ length s) ⊎ (get_or s stop 0 ≡ code "\n")

abbrev pub BareStands : Bytes → ℕ → Option ℕ → Type 0
BareStands s from (Some stop) = BareEnds s from stop
BareStands s from None = Unit {0}

-- what may stand behind the fields of a line and its separators: perhaps a comment, perhaps one CR; then an LF or the text's end
pub record Ends (s : Bytes) (from stop : ℕ) : Type 0 where
  pub note : Bytes
  pub return : Bytes
  pub order : from ≤ stop
  pub inside : stop ≤ length s
  pub spelled : stretch s from stop ≡ note ++ return
  pub comment : (note ≡ []) ⊎ Comment note
  pub cr : (return ≡ []) ⊎ (return ≡ code "\r" ∷ [])
  pub last : (stop ≡ length s) ⊎ (get_or s stop 0 ≡ code "\n")

abbrev pub NoteStands : Bytes → ℕ → Option ℕ → Type 0
NoteStands s from (Some stop) = Ends s from stop
NoteStands s from None = Unit {0}

-- the same behind separators
pub record LineEnds (s : Bytes) (from stop : ℕ) : Type 0 where
  pub at : ℕ
  pub order : from ≤ at
  pub blank : all separates (stretch s from at) ≡ true
  pub ends : Ends s at stop

abbrev pub EndStands : Bytes → ℕ → Option ℕ → Type 0
EndStands s from (Some stop) = LineEnds s from stop
EndStands s from None = Unit {0}

-- a byte of a field, with which no comment opens
abbrev pub name_byte : ℕ → Bool
name_byte b = field_byte b && other (code "/") b

-- such bytes, from a place on up to another; perhaps none
pub record NameEnds (s : Bytes) (from stop : ℕ) : Type 0 where
  pub order : from ≤ stop
  pub inside : from ≤ length s → stop ≤ length s
  pub bytes : all name_byte (stretch s from stop) ≡ true
