-- Executable: what a text gets that is too long, and another. Assumes nothing.
use Rattle.terms.specs.Words.{ℕ, ltb, length, pick, Bytes}

-- 01: 1 "text over 16,777,215 bytes"
abbrev pub most : ℕ
most = 16777215

abbrev pub if_too_long : {A : Type 0} → Bytes → A → A → A
if_too_long text too_long other = pick (ltb most (length text)) too_long other
