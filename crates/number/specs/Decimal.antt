-- WHAT A READER MUST BELIEVE. The digits of a number. Assumes nothing.
use Rattle.std.specs.Prelude.{◌∷◌, ◌++◌, ◌+◌, ◌/◌, ◌%◌}
use Rattle.terms.specs.Words.{[], ℕ, zero, suc, code, ltb, Bytes, pick}

-- the byte of a number below ten
abbrev pub digit_of : ℕ → ℕ
digit_of d = code "0" + d

-- the digits of a number: those of its tens if it has any, then the last one; k digits at most
unfoldable pub spell : ℕ → ℕ → Bytes
spell zero n = []
spell (suc k) n = pick (ltb n 10) (digit_of n ∷ []) (spell k (n / 10) ++ (digit_of (n % 10) ∷ []))

-- 01: "no leading zero but `0` itself": n + 1 digits are always enough (laws: `decimal-one`, `decimal-more`)
unfoldable pub decimal : ℕ → Bytes
decimal n = spell (suc n) n

-- the last k digits of a number, zeros in front too
unfoldable pub padded : ℕ → ℕ → Bytes
padded zero n = []
padded (suc k) n = padded k (n / 10) ++ (digit_of (n % 10) ∷ [])
