-- Executable: the line of the row-th statement of one kind, counted on the way. Assumes nothing.
use Rattle.std.specs.Prelude.{Bool, ℕ, ◌+◌, eqb}
use Rattle.terms.specs.Words.{pick}
use Rattle.walk.specs.declared.Seen.{Seen}
use Rattle.walk.specs.Standing.{Where}

abbrev pub none_seen : Seen
none_seen = record { count = 0; line = 0 }

unfoldable pub seen_more : Bool → (row line : ℕ) → Seen → Seen
seen_more of_kind_of row line c = pick of_kind_of (record { count = c.count + 1; line = pick (eqb c.count row) line c.line }) c

-- as the program counts: a count that is as large as 32 bits hold stays there. No text that is walked has so many lines (proofs/SeenLaws.counts)
unfoldable pub more_seen : Bool → (row line : ℕ) → Seen → Seen
more_seen of_kind_of row line c = pick (eqb c.count 4294967295) c (seen_more of_kind_of row line c)

-- a statement of a kind given by its column
abbrev pub see : {St : Type 0} → (St → ℕ) → (kind row : ℕ) → Where → St → Seen → Seen
see kind-of kind row w s c = seen_more (eqb (kind-of s) kind) row w.line c
