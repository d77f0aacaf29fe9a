-- Executable: how a list is put, element by element. That this is what is told (`Some-of` of expected_law/specs/Telling) is proofs/Listed. Assumes nothing.
use Rattle.std.specs.Prelude.{List, [], ◌∷◌, ◌++◌, ℕ, suc, ◌-◌, eqb, ltb}
use Rattle.terms.specs.Ascii.{Bytes, ascii}
use Rattle.terms.specs.Words.{pick}
use Rattle.expected_law.specs.Telling.{and_more}

-- the i-th element, from 0: behind the head, or behind a comma; nothing behind the first six
unfoldable pub element : (head : Bytes) → ℕ → Bytes → Bytes
element head i word = pick (ltb 5 i) [] (pick (eqb i 0) head (ascii ", ") ++ word)

-- behind so many elements: how many more there are; where there are none, other words
unfoldable pub listing_end : (none : Bytes) → ℕ → Bytes
listing_end none count = pick (eqb count 0) none (and_more (count - 6))

-- the elements from the i-th on
unfoldable pub listing : (head none : Bytes) → ℕ → List Bytes → Bytes
listing head none i [] = listing_end none i
listing head none i (word ∷ words) = element head i word ++ listing head none (suc i) words
