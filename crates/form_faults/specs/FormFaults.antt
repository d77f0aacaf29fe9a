-- What it says of a text that it gets 2 to 9 or 25 at a line, and what that it gets 10. Document 01, "Refusal numbers". Assumes nothing.
use Rattle.std.specs.Prelude.{◌≡◌, List, [], ◌∷◌, ◌++◌, true, ℕ, suc, ◌+◌, length}
use Rattle.terms.specs.Ascii.{Bytes}
use Rattle.line.specs.Text.{Cut}
use Rattle.line.specs.Content.{Field}
use Rattle.grammar.specs.Editions.{Edition, march}
use Rattle.grammar.specs.Network.{under}
use Rattle.grammar.specs.Language.{Lang, S}
use Rattle.grammar.specs.Machine.{Machine, Place, at, next, run}
use Rattle.grammar.specs.Places.{rndf_by, name_due}
use Rattle.grammar.specs.MissionPlaces as Mission
use Rattle.text.specs.Said.{Said}
use Rattle.text.specs.RndfLines.{rndf_line_in_of}
use Rattle.text.specs.MdfLines.{the_mdf_line_of}
use Rattle.text.specs.RndfWords.{rndf_lexis_in}
use Rattle.text.specs.MdfWords.{mdf_lexis}
use Rattle.text.specs.Judge.{Lexis}
use Rattle.text.specs.Spelling.{SpellsLines, SpellsRndfIn, SpellsMdf}
use Rattle.text.specs.Faults.{Fault}
use Rattle.text.specs.Refusals.{Begin}

-- where the line behind these lines starts: each takes its bytes and its LF
unfoldable pub behind : List Bytes → ℕ
behind [] = 0
behind (line ∷ lines) = suc (length line) + behind lines

-- ## 2 to 9, and 25
-- for a file whose lines say statements, which its grammar takes one by one from its first place on
module _ {L : Lang} (A : Machine L) (X : Lexis L) (Line-of : (k : L.Kind) → L.Pay k → List Said) (first : A.Base) where
  -- line i is the first with a fault of 2 to 9, and n is its number
  pub record BadLine (text : Bytes) (i n : ℕ) : Type 0 where
    pub before : List Bytes
    pub this : Bytes
    pub rest : List Bytes
    pub cut : Cut text (before ++ (this ∷ rest))
    -- 01: "Lines count from 1."
    pub number : i ≡ suc (length before)
    -- each line before it is blank or says a statement, and the grammar takes these statements up to a place ..
    pub said : List (S L)
    pub spelled : SpellsLines Line-of 0 before said
    pub place : Place A
    pub came : run A (at A first) said ≡ next place
    -- .. at which this line has the fault
    pub fault : Fault A X Line-of place (behind before) this n

-- ## 10
-- for the texts that spell a network, or a mission
module _ {Net : Type 0} (Spells : Net → Bytes → Type 0) where
  -- the text begins a well-formed one and is none; line i is the one that is missing
  pub record Unended (text : Bytes) (i : ℕ) : Type 0 where
    pub lines : List Bytes
    pub cut : Cut text lines
    pub number : i ≡ suc (length lines)
    pub begins : Begin Spells lines
    pub incomplete : (net : Net) → Spells net text → ⊥

-- ## RNDF, in each edition
-- 01: "for the RNDF 1; then the first line with a fault of 2 to 9, lowest number first, all fields tried for 8 before any for 9; then 10"
abbrev pub RndfBadLineIn : Edition → Bytes → (i n : ℕ) → Type 0
RndfBadLineIn e = BadLine (rndf_by Field (under e true)) (rndf_lexis_in e) (rndf_line_in_of e) name_due

-- 01: 10 "text ends before `end_file`", at "lines + 1"; "10 is given only if every line is good, so the text begins some well-formed file"
abbrev pub RndfUnendedIn : Edition → Bytes → (i : ℕ) → Type 0
RndfUnendedIn e = Unended (SpellsRndfIn e)

-- in the present edition
abbrev pub RndfBadLine : Bytes → (i n : ℕ) → Type 0
RndfBadLine = RndfBadLineIn march

abbrev pub RndfUnended : Bytes → (i : ℕ) → Type 0
RndfUnended = RndfUnendedIn march

-- ## MDF
-- 01: "Then the MDF likewise": 2 to 9 ..
abbrev pub MdfBadLine : Bytes → (i n : ℕ) → Type 0
MdfBadLine = BadLine (Mission.mdf Field) mdf_lexis the_mdf_line_of Mission.name_due

-- .. and 10
abbrev pub MdfUnended : Bytes → (i : ℕ) → Type 0
MdfUnended = Unended SpellsMdf
