-- THE THEOREM of what is told of a refusal: it is what the law says (expected_law/specs/Tells). By the file and the number: 2, 3 and 4; a line of 5 to 9 and 25; 10; 12 to 18. Assumes nothing.
use mathlib.Core.Path.{◌≡◌, refl, sym, ap, subst, ◌∙◌}
use mathlib.Core.List.{List, [], ◌∷◌}
use mathlib.Core.Logic.{inl, inr}
use Prim.Native.Nat.{ℕ, zero, suc, ◌≤◌}
use native.Mathlib.Omega.{arith}
use lib.ListN.{length}
use Rattle.terms.specs.Ascii.{Bytes}
use Rattle.terms.specs.Words.{Among}
use Rattle.line.specs.Line.{Field, Ended, Content}
use Rattle.law.specs.Network.{Network, Mission, Exit, Line, SpellsNetwork, SpellsMission, SpellsText, exit_line}
use Rattle.law.specs.Faults.{BadLine, Unended, SaysAt, FirstFault, RndfFault, undeclared, repeated, MdfFault, other_name, foreign_goal, unknown_id, limited_again, unlimited}
use Rattle.edition.specs.declared.Edition.{Edition}
use Rattle.edition.specs.Editions.{inner, rules_of}
use Rattle.expected_law.specs.Expected.{Expectation, new_number, the_name, entries, goals, ids, missing, ExpectedBehind, Expected, ExpectedOf}
use Rattle.expected_law.specs.Expected as Law
use Rattle.expected_law.specs.Telling.{told}
use Rattle.expected_law.specs.Tells.{Tells, TellsExpected}
use Rattle.expected_lines.specs.Words.{rndf_words, mdf_words}
use Rattle.expected_references.specs.Named.{entries_in, name_in_of, goals_in, unlimited_in}
use Rattle.expected_named.proofs.Theorems.{lane-entries, border-entries, name-there, numbers-there}
use Rattle.expected_named.proofs.Limits.{ids-there}
use Rattle.expected_texts.proofs.RndfTold.{rndf-no-words, rndf-line-words, rndf-end-words}
use Rattle.expected_texts.proofs.MdfTold.{mdf-no-words, mdf-line-words, mdf-end-words}
use Rattle.expected.specs.Words.{rndf_told_of, mdf_told_of, expected_words_of}
use Rattle.expected.proofs.Cases.{of_entry, of_number, of-rndf-form, of-name, of-goal, of-id, of-id-again, of-missing, of-mdf-form, without-line, of-file_1, of-file_2}

-- ## Numbers
-- not 12 to 18
abbrev OfForm : ℕ → Type 0
OfForm number = (k : ℕ) → 12 ≤ k → k ≤ 18 → number ≡ k → ⊥

of-bytes : (number : ℕ) → Among number (2 ∷ 3 ∷ 4 ∷ []) → OfForm number
of-bytes number (inl q) k l u e = omega (arith, q, l, e)
of-bytes number (inr (inl q)) k l u e = omega (arith, q, l, e)
of-bytes number (inr (inr (inl q))) k l u e = omega (arith, q, l, e)
of-bytes number (inr (inr (inr q))) k l u e = q

of-line : (number : ℕ) → Among number (5 ∷ 6 ∷ 7 ∷ 8 ∷ 9 ∷ 25 ∷ []) → OfForm number
of-line number (inl q) k l u e = omega (arith, q, l, e)
of-line number (inr (inl q)) k l u e = omega (arith, q, l, e)
of-line number (inr (inr (inl q))) k l u e = omega (arith, q, l, e)
of-line number (inr (inr (inr (inl q)))) k l u e = omega (arith, q, l, e)
of-line number (inr (inr (inr (inr (inl q))))) k l u e = omega (arith, q, l, e)
of-line number (inr (inr (inr (inr (inr (inl q)))))) k l u e = omega (arith, q, u, e)
of-line number (inr (inr (inr (inr (inr (inr q)))))) k l u e = q

of_end : (number : ℕ) → number ≡ 10 → OfForm number
of_end number q k l u e = omega (arith, q, l, e)

-- a line that there is has a number
some-line : (i n : ℕ) → i ≡ suc n → i ≡ 0 → ⊥
some-line i n q e = omega (arith, q, e)

-- ## An RNDF
module _ (e : Edition) (rndf mdf : Bytes) (file line number : ℕ) (one : file ≡ 1) where
  abbrev words : Bytes
  words = expected_words_of e rndf mdf file line number

  the_rndf_form_of : (n : ℕ) → line ≡ suc n → OfForm number → words ≡ rndf_words e rndf line number
  the_rndf_form_of n i form = sym (of-rndf-form e rndf line number (form 12 (omega arith) (omega arith)) (form 13 (omega arith) (omega arith)) ∙ of-file_1 e rndf mdf file line number (some-line line n i) one)

  rndf-bytes : BadLine (rules_of e) SpellsNetwork rndf line number → Among number (2 ∷ 3 ∷ 4 ∷ []) → words ≡ []
  rndf-bytes bad a = the_rndf_form_of (length bad.at.before) bad.at.number (of-bytes number a) ∙ rndf-no-words e rndf line number a

  module _ (size : length rndf ≤ 16777215) where
    the_rndf_line_of : (bad : BadLine (rules_of e) SpellsNetwork rndf line number) {content : Bytes} {f : Field} {fs : List Field} → Among number (5 ∷ 6 ∷ 7 ∷ 8 ∷ 9 ∷ 25 ∷ []) → Ended bad.this content → Content (rules_of e).separates 0 content (f ∷ fs) → (x : Expectation) × Expected (rules_of e) SpellsNetwork bad.front f fs number x × (words ≡ told x)
    the_rndf_line_of bad a ended c =
        let x = rndf-line-words e rndf size line number bad a ended c in
        (x.0, x.1, the_rndf_form_of (length bad.at.before) bad.at.number (of-line number a) ∙ x.2)

    rndf-end : (short : Unended (rules_of e) SpellsNetwork rndf line) → number ≡ 10 → (x : Expectation) × ExpectedBehind (rules_of e) SpellsNetwork short.said x × (words ≡ told x)
    rndf-end short q =
        let x = rndf-end-words e rndf size line short in
        (x.0, x.1, the_rndf_form_of (length short.lines) short.line (of_end number q) ∙ ap (rndf_words e rndf line) q ∙ x.2)

    -- 12 by the part of the exit
    entry_of : (n : Network Field) → SpellsText (rules_of e) SpellsNetwork n rndf → (front : List Line) (l : Line) → SaysAt (rules_of e) SpellsNetwork rndf line front l → (x y : ℕ) (exit : Exit) → l ≡ exit_line x y exit → ExpectedOf n front l 12 (entries (entries_in rndf line))
    entry_of n s front l at x zero exit q = Law.border_entry x exit q (border-entries e rndf n s size line front l at x exit q)
    entry_of n s front l at x (suc y) exit q = Law.lane_entry x y exit q (lane-entries e rndf n s size line front l at x y exit q)

    rndf-reference : (n : Network Field) → SpellsText (rules_of e) SpellsNetwork n rndf → (bad : FirstFault (rules_of e) SpellsNetwork (RndfFault n) rndf line number) → (x : Expectation) × ExpectedOf n bad.front bad.line number x × (words ≡ told x)
    rndf-reference n s bad = by bad.front bad.line bad.at number bad.fault (sym (of-file_1 e rndf mdf file line number (some-line line (length bad.at.at.before) bad.at.at.number) one))
      where
        by : (front : List Line) (l : Line) → SaysAt (rules_of e) SpellsNetwork rndf line front l → (k : ℕ) → RndfFault n front l k → words ≡ rndf_told_of e rndf line k → (x : Expectation) × ExpectedOf n front l k x × (words ≡ told x)
        by front l at k (undeclared x y exit q d) w = (entries (entries_in rndf line), entry_of n s front l at x y exit q, w ∙ sym (of_entry e rndf line 12 refl))
        by front l at k (repeated x y x' y' c c' q a d) w = (new_number, Law.number, w ∙ sym (of_number e rndf line 13 refl))

    rndf-told : Tells (rules_of e) SpellsNetwork RndfFault (λ n. n) rndf line number words
    rndf-told = record { bytes = rndf-bytes; line = the_rndf_line_of; end = rndf-end; reference = rndf-reference }

-- ## An MDF
module _ (e : Edition) (rndf mdf : Bytes) (file line number : ℕ) (two : file ≡ 2) where
  abbrev said : Bytes
  said = expected_words_of e rndf mdf file line number

  mdf_form : (n : ℕ) → line ≡ suc n → OfForm number → said ≡ mdf_words mdf line number
  mdf_form n i form =
      sym
      (of-mdf-form rndf mdf line number (form 14 (omega arith) (omega arith)) (form 15 (omega arith) (omega arith)) (form 16 (omega arith) (omega arith)) (form 17 (omega arith) (omega arith)) (form 18 (omega arith) (omega arith))
      ∙ of-file_2 e rndf mdf file line number (some-line line n i) two)

  mdf-bytes : BadLine (rules_of e) SpellsMission mdf line number → Among number (2 ∷ 3 ∷ 4 ∷ []) → said ≡ []
  mdf-bytes bad a = mdf_form (length bad.at.before) bad.at.number (of-bytes number a) ∙ mdf-no-words e mdf line number a

  module _ (size : length mdf ≤ 16777215) where
    the_mdf_line_of : (bad : BadLine (rules_of e) SpellsMission mdf line number) {content : Bytes} {f : Field} {fs : List Field} → Among number (5 ∷ 6 ∷ 7 ∷ 8 ∷ 9 ∷ 25 ∷ []) → Ended bad.this content → Content (rules_of e).separates 0 content (f ∷ fs) → (x : Expectation) × Expected (rules_of e) SpellsMission bad.front f fs number x × (said ≡ told x)
    the_mdf_line_of bad a ended c =
        let x = mdf-line-words e mdf size line number bad a ended c in
        (x.0, x.1, mdf_form (length bad.at.before) bad.at.number (of-line number a) ∙ x.2)

    mdf-end : (short : Unended (rules_of e) SpellsMission mdf line) → number ≡ 10 → (x : Expectation) × ExpectedBehind (rules_of e) SpellsMission short.said x × (said ≡ told x)
    mdf-end short q =
        let x = mdf-end-words e mdf size line short in
        (x.0, x.1, mdf_form (length short.lines) short.line (of_end number q) ∙ ap (mdf_words mdf line) q ∙ x.2)

    module _ (n : Network Field) (s : SpellsText (rules_of e) SpellsNetwork n rndf) (rndf-size : length rndf ≤ 16777215) where
      mdf-reference : (m : Mission Field) → SpellsText (rules_of e) SpellsMission m mdf → (bad : FirstFault (rules_of e) SpellsMission (MdfFault n) mdf line number) → (x : Expectation) × ExpectedOf n bad.front bad.line number x × (said ≡ told x)
      mdf-reference m t bad = by bad.front bad.line bad.at number bad.fault (sym (of-file_2 e rndf mdf file line number (some-line line (length bad.at.at.before) bad.at.at.number) two))
        where
          by : (front : List Line) (l : Line) → SaysAt (rules_of e) SpellsMission mdf line front l → (k : ℕ) → MdfFault n front l k → said ≡ mdf_told_of rndf mdf line k → (x : Expectation) × ExpectedOf n front l k x × (said ≡ told x)
          by front l at k (other_name v q d) w = (the_name n.name.bytes, Law.name, w ∙ sym (of-name rndf mdf line 14 refl) ∙ ap (λ (b : Bytes). told (the_name b)) (name-there e rndf n s))
          by front l at k (foreign_goal g q d) w = (goals _, Law.goal, w ∙ sym (of-goal rndf mdf line 15 refl) ∙ ap (λ (b : List ℕ). told (goals b)) (numbers-there e rndf n s rndf-size))
          by front l at k (unknown_id a q d) w = (ids (unlimited_in rndf mdf line), Law.id (inl refl) (ids-there (inner e) n rndf s mdf line front l at), w ∙ sym (of-id rndf mdf line 16 refl))
          by front l at k (limited_again a b q r f d) w = (ids (unlimited_in rndf mdf line), Law.id (inr (inl refl)) (ids-there (inner e) n rndf s mdf line front l at), w ∙ sym (of-id-again rndf mdf line 17 refl))
          by front l at k (unlimited i q r d) w = (missing (unlimited_in rndf mdf line), Law.owed (ids-there (inner e) n rndf s mdf line front l at), w ∙ sym (of-missing rndf mdf line 18 refl))

      mdf-told : Tells (rules_of e) SpellsMission (λ (m : Mission Field). MdfFault n) (λ m. n) mdf line number said
      mdf-told = record { bytes = mdf-bytes; line = the_mdf_line_of; end = mdf-end; reference = mdf-reference }

-- ## Both
pub right : (e : Edition) (rndf mdf : Bytes) (file line number : ℕ) → TellsExpected e rndf mdf file line number (expected_words_of e rndf mdf file line number)
right e rndf mdf file line number = record {
  of_rndf = λ one size. rndf-told e rndf mdf file line number one size;
  of_mdf = λ n s two rndf-size size. mdf-told e rndf mdf file line number two size n s rndf-size;
  no_line = λ none. sym (without-line e rndf mdf file line number none);
}
