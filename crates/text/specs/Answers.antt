-- Executable: the lines of a text judged one by one, and what is answered: the first fault with its line, 10, or the statements. For every file. Assumes nothing.
use Rattle.std.specs.Prelude.{List, [], ◌∷◌, ◌++◌, Bool, true, false, ℕ, suc, ◌+◌, length}
use Rattle.std.proofs.Math.Option.{Option, none, some}
use Rattle.terms.specs.Ascii.{Bytes}
use Rattle.terms.specs.Words.{pick}
use Rattle.line.specs.Lines.{lines_of}
use Rattle.grammar.specs.Language.{Lang, S}
use Rattle.grammar.specs.Machine.{Machine, over, inside, Place, at}
use Rattle.text.specs.Judge.{Verdict, fault, good, Lexis, judge}

-- how far lines were read: stopped at a line by a fault, or through, with what they say
pub data Walk (S P : Type 0) : Type 0 where
  stopped : (line number : ℕ) → Walk S P
  through : List S → P → Walk S P

-- line and number of the first fault of 2 to 9; the line that is missing, with 10; or what the text says
pub data Answer (S : Type 0) : Type 0 where
  faulty : (line number : ℕ) → Answer S
  short : (line : ℕ) → Answer S
  read : List S → Answer S

abbrev pub listed : {A : Type 0} → Option A → List A
listed none = []
listed (some s) = s ∷ []

module _ {L : Lang} (A : Machine L) (X : Lexis L) where
  abbrev pub is_over : Place A → Bool
  is_over over = true
  is_over (inside b g) = false

  abbrev pub put : Option (S L) → Walk (S L) (Place A) → Walk (S L) (Place A)
  put o (stopped i c) = stopped i c
  put o (through ss p) = through (listed o ++ ss) p

  abbrev pub onward : ℕ → Verdict (S L) (Place A) → (Place A → Walk (S L) (Place A)) → Walk (S L) (Place A)
  onward i (fault c) k = stopped i c
  onward i (good o q) k = put o (k q)

  -- lines from a place on, the first of which starts at a place of the text and has the number i
  unfoldable pub walk : Place A → ℕ → ℕ → List Bytes → Walk (S L) (Place A)
  walk p start i [] = through [] p
  walk p start i (l ∷ ls) = onward i (judge A X p start l) (λ q. walk q (start + suc (length l)) (suc i) ls)

  abbrev pub answer : ℕ → Walk (S L) (Place A) → Answer (S L)
  answer n (stopped i c) = faulty i c
  answer n (through ss p) = pick (is_over p) (read ss) (short (suc n))

  -- 01: 10 "text ends before `end_file`": lines + 1
  unfoldable pub read_text : A.Base → Bytes → Answer (S L)
  read_text first text = answer (length (lines_of text)) (walk (at A first) 0 1 (lines_of text))
