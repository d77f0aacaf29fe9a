-- WHAT A READER MUST BELIEVE. What the refusal numbers tell of a text. Document 01, "Refusal numbers"; document 02, L7. Assumes nothing.
use Rattle.std.specs.Prelude.{◌≡◌, ◌∷◌, ◌++◌, ◌⊎◌}
use Rattle.terms.specs.Words.{List, ℕ, suc, length, Bytes}
use Rattle.line.specs.Line.{Cut, Field}
use Rattle.refusal.specs.Numbers.{OfForm, OfReference}
use Rattle.law.specs.Network.{Network, Line, Rules, SpellsText}
use Rattle.law.specs.Tables.{Lent, MissionLent}
use Rattle.law.specs.Faults.{LineAt, Fault, BadLine, Unended, FirstFault}
use Rattle.law_columns.specs.Columns.{Column}
use Rattle.refusal.specs.declared.Refusal.{Refusal}
use Rattle.replies.specs.Replies.{an_rndf, an_mdf, Accepts, Refuses}

-- the numbers that a reader gives: each tells one of five things (RefusedLine, RefusedEnd, NoRoom, WrongReference; 1: the text is too long)
pub data OneOfFive (number : ℕ) : Type 0 where
  size : number ≡ 1 → OneOfFive number
  form : OfForm number → OneOfFive number
  end : number ≡ 10 → OneOfFive number
  room : number ≡ 11 → OneOfFive number
  reference : OfReference number → OneOfFive number

-- for the lines that spell a network, or a mission
module _ (rules : Rules) {Net : Type 0} (Spells : Rules → Net → List Line → Type 0) where
  -- 01: ""Well-formed" means spelled by the grammar, entries still as identifiers and 12 to 18 left aside"
  abbrev pub WellFormed : Bytes → Type 0
  WellFormed text = (n : Net) × SpellsText rules Spells n text

  -- 01: "no fault of 2 to 10"; L8: "a well-formed file is without it", 25
  pub record NoFormFault (text : Bytes) : Type 0 where
    pub no_bad_line : (line number : ℕ) → BadLine rules Spells text line number → ⊥
    pub ended : (line : ℕ) → Unended rules Spells text line → ⊥

  -- these are the first lines of some well-formed text
  pub record Begin (lines : List Bytes) : Type 0 where
    pub more : List Bytes
    pub text : Bytes
    pub cut : Cut text (lines ++ more)
    pub formed : WellFormed text

  -- no well-formed text has these lines first and then this one
  abbrev pub Hopeless : List Bytes → Bytes → Type 0
  Hopeless lines this = (more : List Bytes) (text : Bytes) → Cut text (lines ++ (this ∷ more)) → WellFormed text → ⊥

  -- a number of form (2 to 9, 25): the lines before this one begin some well-formed text, none begins with them and it, and it has the fault with this number, at this column
  pub record RefusedLine (text : Bytes) (line number column : ℕ) : Type 0 where
    pub front : List Line
    pub this : Bytes
    pub at : LineAt rules text line front this
    pub begins : Begin at.before
    pub hopeless : Hopeless at.before this
    pub fault : Fault rules Spells front this number
    pub where_it_is : Column rules Spells front this number column

  -- 10, at "lines + 1". 01: "10 is given only if every line is good, so the text begins some well-formed file": its lines are the first of some well-formed text, and it is none itself
  pub record RefusedEnd (text : Bytes) (line : ℕ) : Type 0 where
    pub lines : List Bytes
    pub cut : Cut text lines
    pub begins : Begin lines
    pub unfinished : WellFormed text → ⊥
    pub number : line ≡ suc (length lines)

  -- 11: the text is well-formed, and there is no room for the rows of what it spells
  pub record NoRoom (Roomy : Net → Type 0) (text : Bytes) : Type 0 where
    pub net : Net
    pub spelled : SpellsText rules Spells net text
    pub none : Roomy net → ⊥

  -- a number of reference (12 to 18): the text is well-formed, there is room, and this is the first line with a wrong reference, at this column
  pub record WrongReference (Roomy : Net → Type 0) (Wrong : Net → List Line → Line → ℕ → Type 0) (text : Bytes) (line number column : ℕ) : Type 0 where
    pub net : Net
    pub spelled : SpellsText rules Spells net text
    pub room : Roomy net
    pub fault : FirstFault rules Spells (Wrong net) text line number
    pub where_it_is : Column rules Spells fault.front fault.at.this number column

-- 01: "Each gives file (1 RNDF, 2 MDF)": this holds of the RNDF, or that of the MDF, as the refusal says
abbrev pub OfFile : Refusal → (Rndf Mdf : Type 0) → Type 0
OfFile x Rndf Mdf = ((x.file ≡ 1) × Rndf) ⊎ ((x.file ≡ 2) × Mdf)

-- 01: "Order: for the RNDF ..; Then the MDF likewise": why a pair is refused so: the RNDF's first refusal, else the MDF's for the network that the RNDF spells
abbrev pub PairRefuses : Rules → (rndf mdf : Bytes) → Lent → MissionLent → Refusal → Type 0
PairRefuses rules rndf mdf t u x = OfFile x (Refuses rules (an_rndf t) rndf x.line x.number x.column) ((n : Network Field) × Accepts rules (an_rndf t) rndf n × Refuses rules (an_mdf n u) mdf x.line x.number x.column)
