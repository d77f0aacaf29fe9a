-- A name of a spelled text stands in it where it says, so asking for it returns its bytes. Assumes nothing.
use mathlib.Core.Path.{◌≡◌, subst}
use mathlib.Core.List.{List, [], ◌∷◌}
use mathlib.Core.Option.{some}
use Prim.Native.Nat.{ℕ}
use lib.ListN.{length}
use Rattle.terms.specs.Ascii.{Bytes}
use Rattle.terms.specs.Words.{Each}
use Rattle.line.specs.Content.{Field, Content}
use Rattle.line.specs.Text.{Ended}
use Rattle.line.specs.Located.{Within, EachLine}
use Rattle.line.proofs.Located.{cut-fields}
use Rattle.grammar.specs.Language.{Stmt}
use Rattle.grammar.specs.Network.{Network}
use Rattle.grammar.specs.Mission.{Mission}
use Rattle.text.specs.Said.{Said, word, name, integer, pair, triple, coordinate, boundary, SpellFields}
use Rattle.text.specs.RndfLines.{rndf_line_in_of, the_rndf_line_of}
use Rattle.text.specs.MdfLines.{the_mdf_line_of}
use Rattle.text.specs.Spelling.{SpellsLine, says, SpellsLines, done, blank_line_of, statement, SpellsRndf, SpellsMdf}
use Rattle.rows.specs.Read.{the_stretch_of}
use Rattle.rows.specs.Name.{name_of}
use Rattle.table_words.proofs.Named.{asked}

-- ## The names of statements
module _ (text : Bytes) where
  -- of what a field says, a name stands in the text
  abbrev Stands : Said → Type 0
  Stands (word w) = Unit {0}
  Stands (name f) = Within 0 text f
  Stands (integer n) = Unit {0}
  Stands (pair i) = Unit {0}
  Stands (triple i) = Unit {0}
  Stands (coordinate z) = Unit {0}
  Stands (boundary d b) = Unit {0}

  fields_stand : (fs : List Field) (ss : List Said) → Each (Within 0 text) fs → SpellFields fs ss → Each Stands ss
  fields_stand [] [] e h = tt
  fields_stand [] (s ∷ ss) e h = absurd h
  fields_stand (f ∷ fs) [] e h = absurd h
  fields_stand (f ∷ fs) (word w ∷ ss) e h = (tt, fields_stand fs ss e.1 h.1)
  fields_stand (f ∷ fs) (name g ∷ ss) e h = (subst (Within 0 text) h.0.0 e.0, fields_stand fs ss e.1 h.1)
  fields_stand (f ∷ fs) (integer n ∷ ss) e h = (tt, fields_stand fs ss e.1 h.1)
  fields_stand (f ∷ fs) (pair i ∷ ss) e h = (tt, fields_stand fs ss e.1 h.1)
  fields_stand (f ∷ fs) (triple i ∷ ss) e h = (tt, fields_stand fs ss e.1 h.1)
  fields_stand (f ∷ fs) (coordinate z ∷ ss) e h = (tt, fields_stand fs ss e.1 h.1)
  fields_stand (f ∷ fs) (boundary d b ∷ ss) e h = (tt, fields_stand fs ss e.1 h.1)

  -- every field of a line that starts there stands in the text
  abbrev FieldsStand : ℕ → Bytes → Type 0
  FieldsStand a l = (c : Bytes) (fs : List Field) → Ended l c → Content a c fs → Each (Within 0 text) fs

  module _ {Kind : Type 0} {Pay : Kind → Type 0} (Line-of : (k : Kind) → Pay k → List Said) where
    abbrev NamesStand : Stmt Kind Pay → Type 0
    NamesStand x = Each Stands (Line-of x.kind x.val)

    line-stands : {a : ℕ} {l : Bytes} {x : Stmt Kind Pay} → FieldsStand a l → SpellsLine Line-of a l (some x) → NamesStand x
    line-stands {x = x} h (says {content = c} {fields = fs} e k s) = fields_stand fs (Line-of x.kind x.val) (h c fs e k) s

    lines_stand : {a : ℕ} {ls : List Bytes} {ss : List (Stmt Kind Pay)} → EachLine FieldsStand a ls → SpellsLines Line-of a ls ss → Each NamesStand ss
    lines_stand h done = tt
    lines_stand h (blank_line_of b r) = lines_stand h.1 r
    lines_stand h (statement s r) = (line-stands h.0 s, lines_stand h.1 r)

-- ## The RNDF's name, and the name that an MDF gives
pub network-name : (n : Network Field) (text : Bytes) → SpellsRndf n text → name_of text (the_stretch_of n.name.start (length n.name.bytes)) ≡ n.name.bytes
unfolding rndf_line_in_of
network-name n text s =
    let each : Each (NamesStand text the_rndf_line_of) s.said = lines_stand text the_rndf_line_of (cut-fields s.made) s.each in
    asked text n.name (subst (Each (NamesStand text the_rndf_line_of)) s.net.spelled each).0.1.0

pub mission-name : (m : Mission Field) (text : Bytes) → SpellsMdf m text → name_of text (the_stretch_of m.rndf.start (length m.rndf.bytes)) ≡ m.rndf.bytes
unfolding the_mdf_line_of
mission-name m text s =
    let each : Each (NamesStand text the_mdf_line_of) s.said = lines_stand text the_mdf_line_of (cut-fields s.made) s.each in
    asked text m.rndf (subst (Each (NamesStand text the_mdf_line_of)) s.net.spelled each).1.0.1.0
