-- Executable: the walk over the lines that come out, each where it stands in the given text; a line whose number is replaced stands at 0, in a buffer of its own. Assumes nothing.
use Rattle.std.specs.Prelude.{◌≡◌, List, [], ◌∷◌, ℕ, suc, ◌+◌, length}
use Rattle.terms.specs.Words.{Bytes}
use Rattle.line.specs.Lines.{lines_of}
use Rattle.grammar.specs.Editions.{Edition}
use Rattle.place.specs.declared.Place.{Place}
use Rattle.network.specs.Storing.{Memory}
use Rattle.network.specs.Reaching.{WalkEnd, stopped, reached, reaching}
use Rattle.mend_lines.specs.declared.Before.{Before}
use Rattle.mend_lines.specs.declared.Becomes.{Becomes}
use Rattle.mend_lines.specs.declared.Becomes.TheVariants.{Stays, Goes, Recount}
use Rattle.mend_lines.specs.Forward.{change_of}
use Rattle.mend_pieces.specs.Pieces.{piece_of, behind_line}

-- bytes that are cut as one line: some, and no LF among them
abbrev pub plain_line_of : Bytes → Type 0
plain_line_of l = lines_of l ≡ l ∷ []

-- a line whose number is replaced stays one line
abbrev pub OneLine : Becomes → Bytes → Type 0
OneLine Stays l = Unit {0}
OneLine (Goes k) l = Unit {0}
OneLine (Recount a b n) l = plain_line_of (piece_of (Recount a b n) l)

-- what comes out for the line l, which starts at `start` in the given text; i: the number of the line that comes out
abbrev pub walked_line : Edition → Place → Memory → (start i : ℕ) → Becomes → Bytes → WalkEnd
walked_line e p m start i Stays l = reaching e p m start i (l ∷ [])
walked_line e p m start i (Goes k) l = reached p m i
walked_line e p m start i (Recount a b n) l = reaching e p m 0 i (piece_of (Recount a b n) l ∷ [])

-- from where a line was left, if it had no fault
abbrev pub then_on : WalkEnd → (Place → Memory → ℕ → WalkEnd) → WalkEnd
then_on (stopped i n) k = stopped i n
then_on (reached p m i) k = k p m i

-- given lines from one on, the first of which starts at `start`
unfoldable pub mended_walk : Edition → Before → Place → Memory → (start i : ℕ) → List Bytes → WalkEnd
mended_walk e b p m start i [] = reached p m i
mended_walk e b p m start i (l ∷ ls) = then_on (walked_line e p m start i (change_of b l ls) l) (λ q d j. mended_walk e (behind_line b l) q d (start + suc (length l)) j ls)
