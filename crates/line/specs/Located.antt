-- Where fields and lines stand in a text. Assumes nothing.
use Rattle.std.specs.Prelude.{◌≡◌, List, [], ◌∷◌, ◌++◌, ℕ, suc, ◌+◌, length}
use Rattle.terms.specs.Ascii.{Bytes}
use Rattle.line.specs.Content.{Field}

-- a field stands in a stretch of the text that starts at a place, at its own start
pub record Within (start : ℕ) (stretch : Bytes) (f : Field) : Type 0 where
  pub before : Bytes
  pub after : Bytes
  pub is : stretch ≡ before ++ (f.bytes ++ after)
  pub starts : f.start ≡ start + length before

-- every line is so, with its start: the next one starts behind the LF
abbrev pub EachLine : (ℕ → Bytes → Type 0) → ℕ → List Bytes → Type 0
EachLine P start [] = Unit {0}
EachLine P start (line ∷ lines) = P start line × EachLine P (start + suc (length line)) lines
