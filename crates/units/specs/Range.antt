-- WHAT A READER MUST BELIEVE. Which numbers are a width, a speed, a checkpoint number, an identifier of a segment or zone. Assumes nothing.
use Rattle.std.specs.Prelude.{ℕ}
use Rattle.terms.specs.Words.{Between}

-- 01: "Integer: .. at most 32,768." "The largest width, speed and identifier belong to the kind that they limit."
abbrev pub largest : ℕ
largest = 32768

-- 01: "`lane_width` ≥ 0 (feet)"
abbrev pub Width : ℕ → Type 0
Width n = Between 0 largest n

-- 01: "A missing width is 65,535, since 0 is a lane width."
abbrev pub missing : ℕ
missing = 65535

-- 01: "A speed of 0 means undefined and is kept as 0."
abbrev pub Speed : ℕ → Type 0
Speed n = Between 0 largest n

-- 01: "Checkpoint numbers are > 0"
abbrev pub Numbered : ℕ → Type 0
Numbered n = Between 1 largest n

-- 01: "segments 1 to M; zones M+1 to M+N", "M + N ≤ 32,768"
abbrev pub Identified : ℕ → Type 0
Identified n = Between 1 largest n
