-- The line of the law that a statement is. Assumes nothing.
use Rattle.std.specs.Prelude.{◌≡◌, List, [], ◌∷◌, map}
use Rattle.terms.specs.Words.{Each}
use Rattle.line.specs.Content.{Field}
use Rattle.law.specs.Network.{Said, Line, word, name, numbers, coordinate, boundary}
use Rattle.grammar.specs.Editions.{Edition, march}
use Rattle.grammar.specs.Language.{Stmt}
use Rattle.grammar.specs.Statements as Rndf
use Rattle.grammar.specs.MissionStatements as Mdf
use Rattle.text.specs.Said as Old
use Rattle.text.specs.RndfLines.{rndf_line_in_of}
use Rattle.text.specs.MdfLines.{the_mdf_line_of}

-- an integer and an identifier are numbers joined by dots
abbrev pub said_of : Old.Said → Said
said_of (Old.word w) = word w
said_of (Old.name f) = name f
said_of (Old.integer n) = numbers (n ∷ [])
said_of (Old.pair i) = numbers (i.m ∷ i.n ∷ [])
said_of (Old.triple i) = numbers (i.x ∷ i.y ∷ i.z ∷ [])
said_of (Old.coordinate z) = coordinate z
said_of (Old.boundary e b) = boundary b

-- its boundary, if it is one, is of this edition
abbrev pub Of : Edition → Old.Said → Type 0
Of e (Old.word w) = Unit {0}
Of e (Old.name f) = Unit {0}
Of e (Old.integer n) = Unit {0}
Of e (Old.pair i) = Unit {0}
Of e (Old.triple i) = Unit {0}
Of e (Old.coordinate z) = Unit {0}
Of e (Old.boundary d b) = d ≡ e

abbrev pub AllOf : Edition → {Kind : Type 0} {Pay : Kind → Type 0} → ((k : Kind) → Pay k → List Old.Said) → Type 0
AllOf e {Kind} {Pay} Line-of = (k : Kind) (v : Pay k) → Each (Of e) (Line-of k v)

abbrev pub law_line : {Kind : Type 0} {Pay : Kind → Type 0} → ((k : Kind) → Pay k → List Old.Said) → Stmt Kind Pay → Line
law_line Line-of s = map said_of (Line-of s.kind s.val)

abbrev pub rndf_law_line_in : Edition → Rndf.Statement Field → Line
rndf_law_line_in e = law_line (rndf_line_in_of e)

abbrev pub rndf_law_line : Rndf.Statement Field → Line
rndf_law_line = rndf_law_line_in march

abbrev pub mdf_law_line : Mdf.Statement Field → Line
mdf_law_line = law_line the_mdf_line_of
