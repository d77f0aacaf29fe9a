-- Which line of a text is the first at fault with a number of 12 to 18. Document 01, "Refusal numbers": "then the first line with 12 or 13. Then the MDF likewise, 14 to 18 by first line, 16 before 17". Assumes nothing.
use Rattle.std.specs.Prelude.{◌≡◌, List, ◌∷◌, ◌++◌, ℕ, suc, ◌<◌, length}
use Rattle.std.proofs.Math.Option.{some}
use Rattle.terms.specs.Ascii.{Bytes}
use Rattle.line.specs.Text.{Cut}
use Rattle.line.specs.Content.{Field}
use Rattle.grammar.specs.Language.{Stmt}
use Rattle.grammar.specs.MissionStatements as Mdf
use Rattle.grammar.specs.Network.{Network}
use Rattle.grammar.specs.References.{all_numbers, parts}
use Rattle.text.specs.Said.{Said}
use Rattle.text.specs.Spelling.{SpellsLine, SpellsLines}
use Rattle.text.specs.RndfLines.{the_rndf_line_of}
use Rattle.text.specs.MdfLines.{the_mdf_line_of}
use Rattle.fill.specs.Faults.{ReferenceFault, MissionFault}
use Rattle.form_faults.specs.FormFaults.{behind}

-- for a file whose statements have these fields
module _ {Kind : Type 0} {Pay : Kind → Type 0} (Line-of : (k : Kind) → Pay k → List Said) where
  -- the lines before line i say the statements `front`, and line i says x; the first line is line 1
  pub record SaysAt (text : Bytes) (i : ℕ) (front : List (Stmt Kind Pay)) (x : Stmt Kind Pay) : Type 0 where
    pub before : List Bytes
    pub this : Bytes
    pub rest : List Bytes
    pub cut : Cut text (before ++ (this ∷ rest))
    pub number : i ≡ suc (length before)
    pub said : SpellsLines Line-of 0 before front
    pub says : SpellsLine Line-of (behind before) this (some x)

  -- `F front x k`: the statement x, behind the statements `front`, is at fault with number k (fill/specs/Faults: ReferenceFault, MissionFault)
  module _ (F : List (Stmt Kind Pay) → Stmt Kind Pay → ℕ → Type 0) where
    -- no line of the text is at fault
    abbrev pub NoLine : Bytes → Type 0
    NoLine text = (i k : ℕ) (front : List (Stmt Kind Pay)) (x : Stmt Kind Pay) → SaysAt text i front x → F front x k → ⊥

    -- line i is at fault with number k, and no line before it is at fault
    pub record FirstLine (text : Bytes) (i k : ℕ) : Type 0 where
      pub front : List (Stmt Kind Pay)
      pub this : Stmt Kind Pay
      pub at : SaysAt text i front this
      pub fault : F front this k
      pub first : (j m : ℕ) (front' : List (Stmt Kind Pay)) (x : Stmt Kind Pay) → j < i → SaysAt text j front' x → F front' x m → ⊥

-- ## The RNDF of a network
-- 01: "the first line with 12 or 13"
abbrev pub FirstRndfFault : Network Field → Bytes → (line number : ℕ) → Type 0
FirstRndfFault n = FirstLine the_rndf_line_of (ReferenceFault n)

abbrev pub NoRndfFault : Network Field → Bytes → Type 0
NoRndfFault n = NoLine the_rndf_line_of (ReferenceFault n)

-- ## An MDF for a network
-- 01: 14 "MDF's RNDF name is not this RNDF's": another name, byte for byte; 15 to 18 by its checkpoints' numbers and by the ids of its segments and zones
abbrev pub MdfFault : Network Field → List (Mdf.Statement Field) → Mdf.Statement Field → ℕ → Type 0
MdfFault n = MissionFault (λ v. v.bytes ≡ n.name.bytes) (all_numbers n) (parts n)

-- 01: "14 to 18 by first line"
abbrev pub FirstMdfFault : Network Field → Bytes → (line number : ℕ) → Type 0
FirstMdfFault n = FirstLine the_mdf_line_of (MdfFault n)

abbrev pub NoMdfFault : Network Field → Bytes → Type 0
NoMdfFault n = NoLine the_mdf_line_of (MdfFault n)
