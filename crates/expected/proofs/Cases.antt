-- What is told, by the cases that the code tells apart: the number, the file, a refusal without a line. Assumes nothing.
use mathlib.Core.Path.{◌≡◌}
use mathlib.Core.List.{[]}
use Prim.Native.Nat.{ℕ}
use borrow.Author.Tests.{eq-eqb, ne_eqb}
use Rattle.terms.specs.Ascii.{Bytes}
use Rattle.edition.specs.declared.Edition.{Edition}
use Rattle.expected_law.specs.Expected.{new_number, the_name, entries, goals, ids, missing}
use Rattle.expected_law.specs.Telling.{told}
use Rattle.expected_lines.specs.Words.{rndf_words, mdf_words}
use Rattle.expected_references.specs.Named.{entries_in, name_in_of, goals_in, unlimited_in}
use Rattle.expected.specs.Words.{rndf_told_of, mdf_told_of, expected_words_of}

-- ## An RNDF
module _ (e : Edition) (rndf : Bytes) (line number : ℕ) where
  pub of_entry : number ≡ 12 → told (entries (entries_in rndf line)) ≡ rndf_told_of e rndf line number
  unfolding rndf_told_of
  of_entry h = rw (eq-eqb number 12 h)

  pub of_number : number ≡ 13 → told new_number ≡ rndf_told_of e rndf line number
  unfolding rndf_told_of
  of_number h = rw h

  pub of-rndf-form : (number ≡ 12 → ⊥) → (number ≡ 13 → ⊥) → rndf_words e rndf line number ≡ rndf_told_of e rndf line number
  unfolding rndf_told_of
  of-rndf-form a b = rw (ne_eqb number 12 a, ne_eqb number 13 b)

-- ## An MDF
module _ (rndf mdf : Bytes) (line number : ℕ) where
  pub of-name : number ≡ 14 → told (the_name (name_in_of rndf)) ≡ mdf_told_of rndf mdf line number
  unfolding mdf_told_of
  of-name h = rw h

  pub of-goal : number ≡ 15 → told (goals (goals_in rndf)) ≡ mdf_told_of rndf mdf line number
  unfolding mdf_told_of
  of-goal h = rw h

  pub of-id : number ≡ 16 → told (ids (unlimited_in rndf mdf line)) ≡ mdf_told_of rndf mdf line number
  unfolding mdf_told_of
  of-id h = rw h

  pub of-id-again : number ≡ 17 → told (ids (unlimited_in rndf mdf line)) ≡ mdf_told_of rndf mdf line number
  unfolding mdf_told_of
  of-id-again h = rw h

  pub of-missing : number ≡ 18 → told (missing (unlimited_in rndf mdf line)) ≡ mdf_told_of rndf mdf line number
  unfolding mdf_told_of
  of-missing h = rw h

  pub of-mdf-form : (number ≡ 14 → ⊥) → (number ≡ 15 → ⊥) → (number ≡ 16 → ⊥) → (number ≡ 17 → ⊥) → (number ≡ 18 → ⊥) → mdf_words mdf line number ≡ mdf_told_of rndf mdf line number
  unfolding mdf_told_of
  of-mdf-form a b c d f = rw (ne_eqb number 14 a, ne_eqb number 15 b, ne_eqb number 16 c, ne_eqb number 17 d, ne_eqb number 18 f)

-- ## By the file
module _ (e : Edition) (rndf mdf : Bytes) (file line number : ℕ) where
  pub without-line : line ≡ 0 → [] ≡ expected_words_of e rndf mdf file line number
  unfolding expected_words_of
  without-line h = rw (eq-eqb line 0 h)

  pub of-file_1 : (line ≡ 0 → ⊥) → file ≡ 1 → rndf_told_of e rndf line number ≡ expected_words_of e rndf mdf file line number
  unfolding expected_words_of
  of-file_1 d h = rw (ne_eqb line 0 d, eq-eqb file 1 h)

  pub of-file_2 : (line ≡ 0 → ⊥) → file ≡ 2 → mdf_told_of rndf mdf line number ≡ expected_words_of e rndf mdf file line number
  unfolding expected_words_of
  of-file_2 d h = rw (ne_eqb line 0 d, h)

  pub of-no-file : (line ≡ 0 → ⊥) → (file ≡ 1 → ⊥) → (file ≡ 2 → ⊥) → [] ≡ expected_words_of e rndf mdf file line number
  unfolding expected_words_of
  of-no-file d a b = rw (ne_eqb line 0 d, ne_eqb file 1 a, ne_eqb file 2 b)
