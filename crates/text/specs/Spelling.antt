-- What a text spells: its lines, each blank or one statement; these statements spell the network or mission. Assumes nothing.
use Rattle.std.specs.Prelude.{◌≡◌, List, [], ◌∷◌, true, ℕ, suc, ◌+◌, length}
use Rattle.std.proofs.Math.Option.{Option, none, some}
use Rattle.terms.specs.Ascii.{Bytes}
use Rattle.line.specs.Text.{Cut, Ended}
use Rattle.line.specs.Content.{Field, Content}
use Rattle.grammar.specs.Language.{Stmt}
use Rattle.grammar.specs.Editions.{Edition, march}
use Rattle.grammar.specs.Statements as Rndf
use Rattle.grammar.specs.MissionStatements as Mdf
use Rattle.grammar.specs.Network.{Network, under, SpellsNetworkBy}
use Rattle.grammar.specs.Mission.{Mission, SpellsMission}
use Rattle.grammar.specs.Names.{network_named, mission_named}
pub use Rattle.law.specs.Same.{Name, bytes, bytes_of}
use Rattle.text.specs.Said.{Said, SpellFields}
use Rattle.text.specs.RndfLines.{rndf_line_in_of}
use Rattle.text.specs.MdfLines.{the_mdf_line_of}

-- for a file whose statements have these fields
module _ {Kind : Type 0} {Pay : Kind → Type 0} (Line-of : (k : Kind) → Pay k → List Said) where
  -- 01: "A line without fields is blank and may stand anywhere"; "Every line is first made out as one statement". The line starts at a place of the text.
  pub data SpellsLine (start : ℕ) (line : Bytes) : Option (Stmt Kind Pay) → Type 0 where
    blank : {content : Bytes} → Ended line content → Content start content [] → SpellsLine start line none
    says : {content : Bytes} {fields : List Field} {s : Stmt Kind Pay} → Ended line content → Content start content fields → SpellFields fields (Line-of s.kind s.val) → SpellsLine start line (some s)

  -- lines one behind the other, the first of which starts at a place of the text, and the statements that they say
  pub data SpellsLines : ℕ → List Bytes → List (Stmt Kind Pay) → Type 0 where
    done : {start : ℕ} → SpellsLines start [] []
    blank_line_of : {start : ℕ} {line : Bytes} {lines : List Bytes} {said : List (Stmt Kind Pay)} → SpellsLine start line none → SpellsLines (start + suc (length line)) lines said → SpellsLines start (line ∷ lines) said
    statement : {start : ℕ} {line : Bytes} {lines : List Bytes} {s : Stmt Kind Pay} {said : List (Stmt Kind Pay)} → SpellsLine start line (some s) → SpellsLines (start + suc (length line)) lines said → SpellsLines start (line ∷ lines) (s ∷ said)

  -- a text whose statements are spelled so
  pub record SpellsText {Net : Type 0} (Spells : Net → List (Stmt Kind Pay) → Type 0) (n : Net) (text : Bytes) : Type 0 where
    pub lines : List Bytes
    pub said : List (Stmt Kind Pay)
    pub made : Cut text lines
    pub each : SpellsLines 0 lines said
    pub net : Spells n said

-- ## A network, and a mission, whose names are known by their places in the text
abbrev pub SpellsRndfIn : Edition → Network Field → Bytes → Type 0
SpellsRndfIn e = SpellsText (rndf_line_in_of e) (SpellsNetworkBy (under e true))

-- in the present edition
abbrev pub SpellsRndf : Network Field → Bytes → Type 0
SpellsRndf = SpellsRndfIn march

abbrev pub SpellsMdf : Mission Field → Bytes → Type 0
SpellsMdf = SpellsText the_mdf_line_of SpellsMission

-- 01: "A network or mission is its tables with each name's bytes in place of start and length."
pub record MeansNetwork (n : Network Name) (text : Bytes) : Type 0 where
  pub located : Network Field
  pub spelled : SpellsRndf located text
  pub named : network_named bytes_of located ≡ n

pub record MeansMission (m : Mission Name) (text : Bytes) : Type 0 where
  pub located : Mission Field
  pub spelled : SpellsMdf located text
  pub named : mission_named bytes_of located ≡ m
