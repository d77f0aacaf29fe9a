-- WHAT A READER MUST BELIEVE. What is answered where a caller asks what may stand where a text was refused: the words of Telling, of what Expected says, or nothing. Assumes nothing.
use Rattle.std.specs.Prelude.{◌≡◌, ◌∷◌, ◌≤◌}
use Rattle.terms.specs.Words.{List, [], ℕ, length, Bytes, Among}
use Rattle.line.specs.Line.{Ended, Field, Content}
use Rattle.law.specs.Network.{Network, Mission, Rules, Line, SpellsNetwork, SpellsMission, SpellsText}
use Rattle.law.specs.Faults.{BadLine, Unended, FirstFault, RndfFault, MdfFault}
use Rattle.edition.specs.declared.Edition.{Edition}
use Rattle.edition.specs.Editions.{rules_of}
use Rattle.expected_law.specs.declared.ExpectedAnswer.{ExpectedAnswer}
use Rattle.output.specs.Output.{zero_bytes, Fits, padded}
use Rattle.expected_law.specs.Expected.{Expectation, ExpectedBehind, Expected, ExpectedOf}
use Rattle.expected_law.specs.Telling.{told}

-- a text with a fault of this number in line i: its file is spelled so; which lines have wrong references, and in which network. 2, 3 and 4 are about bytes, and the reason says which
module _ (rules : Rules) {Meaning : Type 0} (Spells : Rules → Meaning → List Line → Type 0) (Wrong : Meaning → List Line → Line → ℕ → Type 0) (network : Meaning → Network Field) (text : Bytes) (i number : ℕ) where
  pub record Tells (words : Bytes) : Type 0 where
    pub bytes : BadLine rules Spells text i number → Among number (2 ∷ 3 ∷ 4 ∷ []) → words ≡ []
    pub line : (bad : BadLine rules Spells text i number) {content : Bytes} {f : Field} {fs : List Field} → Among number (5 ∷ 6 ∷ 7 ∷ 8 ∷ 9 ∷ 25 ∷ []) → Ended bad.this content → Content rules.separates 0 content (f ∷ fs) → (x : Expectation) × Expected rules Spells bad.front f fs number x × (words ≡ told x)
    pub end : (short : Unended rules Spells text i) → number ≡ 10 → (x : Expectation) × ExpectedBehind rules Spells short.said x × (words ≡ told x)
    pub reference : (m : Meaning) → SpellsText rules Spells m text → (bad : FirstFault rules Spells (Wrong m) text i number) → (x : Expectation) × ExpectedOf (network m) bad.front bad.line number x × (words ≡ told x)

-- of a pair of texts, with a refusal's file, line and number. Of a refusal without a line nothing is told
pub record TellsExpected (e : Edition) (rndf mdf : Bytes) (file line number : ℕ) (words : Bytes) : Type 0 where
  pub of_rndf : file ≡ 1 → length rndf ≤ 16777215 → Tells (rules_of e) SpellsNetwork RndfFault (λ n. n) rndf line number words
  pub of_mdf : (n : Network Field) → SpellsText (rules_of e) SpellsNetwork n rndf → file ≡ 2 → length rndf ≤ 16777215 → length mdf ≤ 16777215 → Tells (rules_of e) SpellsMission (λ (m : Mission Field). MdfFault n) (λ m. n) mdf line number words
  pub no_line : line ≡ 0 → words ≡ []

-- what is answered, and what the lent output then holds: all of the words, or refusal 19. `words` is how the library chooses them where that is left open: the order of a list, and of a refusal that these texts do not get. It need not be read: `right` says what counts
module _ (words : Edition → (rndf mdf : Bytes) → (file line number : ℕ) → Bytes) (e : Edition) (rndf mdf : Bytes) (file line number lent : ℕ) where
  pub record AnswersExpected (answer : ExpectedAnswer) (out : Bytes) : Type 0 where
    pub right : TellsExpected e rndf mdf file line number (words e rndf mdf file line number)
    pub whole : Fits lent (words e rndf mdf file line number) → (answer ≡ record { accepted = 1; file = 0; line = 0; number = 0; column = 0; length = length (words e rndf mdf file line number) }) × (out ≡ padded lent (words e rndf mdf file line number))
    pub too_long : (Fits lent (words e rndf mdf file line number) → ⊥) → (answer ≡ record { accepted = 0; file = 0; line = 0; number = 19; column = 0; length = 0 }) × (out ≡ zero_bytes lent)
