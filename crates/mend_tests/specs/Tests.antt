-- Executable: the walk over a text with few tables, and every exit's entry tested line by line. Assumes nothing.
use Rattle.std.specs.Prelude.{List, [], ◌∷◌, Bool, true, false, ℕ, take, replicate, eqb}
use Rattle.std.proofs.Math.Option.{Option, none, some}
use Rattle.terms.specs.Words.{Bytes, pick}
use Rattle.line.specs.Lines.{lines_of}
use Rattle.line.specs.Forms.{fields_in_of, part}
use Rattle.number.specs.Executable.{triple_of}
use Rattle.number.specs.declared.Id.{Id}
use Rattle.statement.specs.Meaning.{the_the_point_of}
use Rattle.find_line.specs.FoundLines.{fields_end_of, rndf_line_kind_of}
use Rattle.fill.specs.Resolve.{Look, resolve}
use Rattle.references.specs.Entry.{id_from_of}
use Rattle.grammar.specs.Editions.{Edition}
use Rattle.place.specs.Step.{first_place}
use Rattle.progress.specs.declared.Progress.{Progress}
use Rattle.progress.specs.After.{no_progress}
use Rattle.network.specs.Storing.{Memory, memory}
use Rattle.network.specs.Reaching.{WalkEnd, reaching}

-- the tables that the references need; the others have no rows
abbrev pub few : Progress → (segments lanes zones checkpoints : List ℕ) → Memory
few p sg ln zn ck = memory p sg ln zn [] [] ck [] []

-- a text walked with these tables
abbrev pub text_walk : Edition → Bytes → (segments lanes zones checkpoints : List ℕ) → WalkEnd
text_walk e text sg ln zn ck = reaching e first_place (few no_progress sg ln zn ck) 0 1 (lines_of text)

-- so many words, all zero
abbrev pub nought : ℕ → List ℕ
nought n = replicate n 0

-- ## Entries of exits
-- the third field as an identifier; 0.0.0 where there is none
unfoldable pub third_id_of : Bytes → Id
third_id_of s = id_from_of (triple_of (part s (fields_in_of s).c))

-- of a line, without its LF
unfoldable pub entry_on_of : Bytes → Id
entry_on_of l = third_id_of (take (fields_end_of l) l)

abbrev pub is_there_of : Option ℕ → Bool
is_there_of none = false
is_there_of (some i) = true

-- the line is no exit, or its entry is declared; m: how many segments there are
unfoldable pub is_exit_right_of : Look → (m : ℕ) → Bytes → Bool
is_exit_right_of look m l = pick (eqb (rndf_line_kind_of l) 16) (is_there_of (resolve m look (the_the_point_of (entry_on_of l)))) true

unfoldable pub all_right_of : Look → (m : ℕ) → List Bytes → Bool
all_right_of look m [] = true
all_right_of look m (l ∷ ls) = pick (is_exit_right_of look m l) (all_right_of look m ls) false
