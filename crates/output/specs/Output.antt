-- WHAT A READER MUST BELIEVE. What a lent output holds once a writing went to it. A writing is a list of bytes. Assumes nothing.
use Rattle.std.specs.Prelude.{◌++◌, ◌-◌, ◌≤◌}
use Rattle.terms.specs.Words.{ℕ, length, replicate, Bytes}

-- so many zeros
abbrev pub zero_bytes : ℕ → Bytes
zero_bytes n = replicate n 0

-- 01: refusal 19 is given to a "house writing over 16,777,215 bytes or longer than the lent output". This one is neither
pub record Fits (lent : ℕ) (writing : Bytes) : Type 0 where
  pub size : length writing ≤ 16777215
  pub room : length writing ≤ lent

-- 01: "A lent output is zero behind what was written.": these bytes and then zeros, over the whole length of an output of so many bytes
abbrev pub padded : ℕ → Bytes → Bytes
padded lent writing = writing ++ zero_bytes (lent - length writing)
