-- The sign of a coordinate. Assumes nothing.
use Rattle.terms.specs.Words.{[], Bool, ℕ, ℤ, pos, neg_ℤ, Bytes, ascii, pick}

-- a minus, or nothing
abbrev pub sign : Bool → Bytes
sign minus = pick minus (ascii "-") []

-- minus or plus so many; minus 0 is 0
abbrev pub signed : Bool → ℕ → ℤ
signed minus m = pick minus (neg_ℤ (pos m)) (pos m)
