-- Executable: a lent output and the place of the next byte, and what puts do to them; the contracts cite these. Assumes nothing.
use Rattle.std.specs.Prelude.{◌≡◌, [], ◌∷◌, Bool, ◌&&◌, ℕ, ◌+◌, length, set, ltb, leb, Some, None, Option}
use Rattle.terms.specs.Ascii.{Bytes}
use Rattle.terms.specs.Words.{pick}
use Rattle.output.specs.Output.{zero_bytes, padded}

pub record Pen : Type 0 where
  pub out : Bytes
  pub at : ℕ

abbrev pub pen : Bytes → ℕ → Pen
pen l at = record { out = l; at = at }

-- one byte. Where the output has no such place it is only counted; 16,777,215 are counted, and one place more says that there were more
unfoldable pub step : Pen → ℕ → Pen
step p b = pick (ltb p.at 16777215) (pen (set p.out p.at b) (p.at + 1)) (pen p.out 16777216)

-- bytes, one behind the other
unfoldable pub put : Pen → Bytes → Pen
put p [] = p
put p (b ∷ x) = put (step p b) x

-- THE SHAPE of every writer's contract: from the pen p the bytes x were put, which left the pen q
pub record Wrote (p : Pen) (x : Bytes) (q : Pen) : Type 0 where
  pub is : put p x ≡ q

-- ## The end
-- a place in an output of so many bytes up to which all was put
abbrev pub within : ℕ → ℕ → Bool
within lent at = leb at 16777215 && leb at lent

unfoldable pub finished_of : ℕ → ℕ → Option ℕ
finished_of lent at = pick (within lent at) (Some at) None

-- what `finish` leaves of the output l and answers, with the pen at a place
pub record Finishes (l : Bytes) (at : ℕ) (left : Bytes) (answer : Option ℕ) : Type 0 where
  pub bytes : left ≡ pick (within (length l) at) l (zero_bytes (length l))
  pub answers : answer ≡ finished_of (length l) at

-- ## Clear, put and finish in one
unfoldable pub output_of : ℕ → Bytes → Bytes
output_of lent x = pick (within lent (length x)) (padded lent x) (zero_bytes lent)

abbrev pub answer_of : ℕ → Bytes → Option ℕ
answer_of lent x = finished_of lent (length x)
