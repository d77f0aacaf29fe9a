-- Executable: what is told of a refusal, from the texts. Assumes nothing.
use Rattle.std.specs.Prelude.{◌||◌, [], ◌∷◌, ◌++◌, ℕ, eqb}
use Rattle.terms.specs.Ascii.{Bytes, ascii}
use Rattle.terms.specs.Words.{pick}
use Rattle.edition.specs.declared.Edition.{Edition}
use Rattle.expected_law.specs.declared.ExpectedAnswer.{ExpectedAnswer}
use Rattle.expected_law.specs.Expected.{new_number, the_name, entries, goals, ids, missing}
use Rattle.expected_law.specs.Telling.{told}
use Rattle.expected_lines.specs.Words.{rndf_words, mdf_words}
use Rattle.expected_references.specs.Named.{entries_in, name_in_of, goals_in, unlimited_in}

unfoldable pub rndf_told_of : Edition → Bytes → (i n : ℕ) → Bytes
rndf_told_of e rndf i n = pick (eqb n 12) (told (entries (entries_in rndf i))) (pick (eqb n 13) (told new_number) (rndf_words e rndf i n))

unfoldable pub mdf_told_of : (rndf mdf : Bytes) → (i n : ℕ) → Bytes
mdf_told_of rndf mdf i n =
    pick (eqb n 14) (told (the_name (name_in_of rndf)))
    (pick (eqb n 15) (told (goals (goals_in rndf)))
    (pick (eqb n 16 || eqb n 17) (told (ids (unlimited_in rndf mdf i)))
    (pick (eqb n 18) (told (missing (unlimited_in rndf mdf i))) (mdf_words mdf i n))))

unfoldable pub expected_words_of : Edition → (rndf mdf : Bytes) → (file line number : ℕ) → Bytes
expected_words_of e rndf mdf file line number = pick (eqb line 0) [] (pick (eqb file 1) (rndf_told_of e rndf line number) (pick (eqb file 2) (mdf_told_of rndf mdf line number) []))

-- a line of its own; nothing of no words
unfoldable pub line_of : Bytes → Bytes
line_of [] = []
line_of (b ∷ words) = (b ∷ words) ++ ascii "\n"

-- ## What a caller is answered: all of so many bytes, or refusal 19
abbrev pub answer_of : ℕ → ExpectedAnswer
answer_of n = record { accepted = 1; file = 0; line = 0; number = 0; column = 0; length = n }

abbrev pub too_short_of : ExpectedAnswer
too_short_of = record { accepted = 0; file = 0; line = 0; number = 19; column = 0; length = 0 }
