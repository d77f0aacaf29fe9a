-- THE THEOREMS: a text spells a network, and a mission, for the law if and only if it does by its statements; likewise lines. Assumes nothing.
use mathlib.Core.Path.{◌≡◌, subst}
use mathlib.Core.List.{List, map}
use mathlib.Core.Bool.{true}
use Prim.Native.Nat.{ℕ}
use Rattle.terms.specs.Ascii.{Bytes}
use Rattle.line.specs.Content.{Field}
use Rattle.law.specs.Network.{Line, SayLines, Network, Mission, Rules, reading, present}
use Rattle.law.specs.Network as Law
use Rattle.law.specs.Short as Short
use Rattle.grammar.specs.Editions.{Edition, march, law_of}
use Rattle.grammar.specs.Language.{Stmt}
use Rattle.grammar.specs.Statements as Rndf
use Rattle.grammar.specs.MissionStatements as Mdf
use Rattle.grammar.specs.Network.{under, SpellsNetworkBy}
use Rattle.grammar.specs.Mission.{SpellsMission}
use Rattle.text.specs.Said as Old
use Rattle.text.specs.RndfLines.{rndf_line_in_of, the_rndf_line_of}
use Rattle.text.specs.MdfLines.{the_mdf_line_of}
use Rattle.text.specs.Spelling.{SpellsLines, SpellsText, SpellsRndfIn, SpellsRndf, SpellsMdf}
use Rattle.law_spelling.specs.LineOf.{AllOf, law_line, rndf_law_line_in, rndf_law_line, mdf_law_line}
use Rattle.law_spelling.proofs.Lines.{Begins, lines-to, lines-back}
use Rattle.law_spelling.proofs.RndfParts.{network-to_in, network-back_in}
use Rattle.law_spelling.proofs.MdfParts.{mission-to_in, mission-back_in}
use Rattle.law_spelling.proofs.OneLine.{rndf-begins_in, rndf-all, mdf-begins, mdf-all}

-- ## Lines, in each edition
module _ (e : Edition) where
  pub rndf-lines-to_in : {start : ℕ} {lines : List Bytes} {said : List (Rndf.Statement Field)} → SpellsLines (rndf_line_in_of e) start lines said → SayLines (reading (law_of e)) start lines (map (rndf_law_line_in e) said)
  rndf-lines-to_in h = lines-to e (rndf_line_in_of e) (rndf-all e) (rndf-begins_in e) h

  pub rndf-lines-back_in : {start : ℕ} {lines : List Bytes} (said : List (Rndf.Statement Field)) → SayLines (reading (law_of e)) start lines (map (rndf_law_line_in e) said) → SpellsLines (rndf_line_in_of e) start lines said
  rndf-lines-back_in said h = lines-back e (rndf_line_in_of e) (rndf-all e) said h

  pub mdf-lines-to_in : {start : ℕ} {lines : List Bytes} {said : List (Mdf.Statement Field)} → SpellsLines the_mdf_line_of start lines said → SayLines (reading (law_of e)) start lines (map mdf_law_line said)
  mdf-lines-to_in h = lines-to e the_mdf_line_of (mdf-all e) mdf-begins h

  pub mdf-lines-back_in : {start : ℕ} {lines : List Bytes} (said : List (Mdf.Statement Field)) → SayLines (reading (law_of e)) start lines (map mdf_law_line said) → SpellsLines the_mdf_line_of start lines said
  mdf-lines-back_in said h = lines-back e the_mdf_line_of (mdf-all e) said h

-- in the present one
pub rndf-lines-to : {start : ℕ} {lines : List Bytes} {said : List (Rndf.Statement Field)} → SpellsLines the_rndf_line_of start lines said → SayLines present start lines (map rndf_law_line said)
rndf-lines-to h = rndf-lines-to_in march h

pub rndf-lines-back : {start : ℕ} {lines : List Bytes} (said : List (Rndf.Statement Field)) → SayLines present start lines (map rndf_law_line said) → SpellsLines the_rndf_line_of start lines said
rndf-lines-back said h = rndf-lines-back_in march said h

pub mdf-lines-to : {start : ℕ} {lines : List Bytes} {said : List (Mdf.Statement Field)} → SpellsLines the_mdf_line_of start lines said → SayLines present start lines (map mdf_law_line said)
mdf-lines-to h = mdf-lines-to_in march h

pub mdf-lines-back : {start : ℕ} {lines : List Bytes} (said : List (Mdf.Statement Field)) → SayLines present start lines (map mdf_law_line said) → SpellsLines the_mdf_line_of start lines said
mdf-lines-back said h = mdf-lines-back_in march said h

-- ## Texts
module _ (e : Edition) {Kind : Type 0} {Pay : Kind → Type 0} (Line-of : (k : Kind) → Pay k → List Old.Said) (all : AllOf e Line-of) {Net : Type 0} (Spells : Net → List (Stmt Kind Pay) → Type 0) (In-law : Rules → Net → List Line → Type 0) where
  text-to : ((k : Kind) (v : Pay k) → Begins (Line-of k v)) → ((n : Net) (said : List (Stmt Kind Pay)) → Spells n said → In-law (reading (law_of e)) n (map (law_line Line-of) said)) → (n : Net) (text : Bytes) → SpellsText Line-of Spells n text → Law.SpellsText (reading (law_of e)) In-law n text
  text-to b to n text h = record { lines = h.lines; said = map (law_line Line-of) h.said; cut = h.made; each = lines-to e Line-of all b h.each; net = to n h.said h.net }

  text-back : ((n : Net) (l : List Line) → In-law (reading (law_of e)) n l → (said : List (Stmt Kind Pay)) × (l ≡ map (law_line Line-of) said) × Spells n said) → (n : Net) (text : Bytes) → Law.SpellsText (reading (law_of e)) In-law n text → SpellsText Line-of Spells n text
  text-back back n text h =
      let x = back n h.said h.net in
      record { lines = h.lines; said = x.0; made = h.cut; each = lines-back e Line-of all x.0 (subst (SayLines (reading (law_of e)) 0 h.lines) x.1 h.each); net = x.2 }

module _ (e : Edition) where
  pub rndf-to_in : (n : Network Field) (text : Bytes) → SpellsRndfIn e n text → Law.SpellsText (reading (law_of e)) Law.SpellsNetwork n text
  rndf-to_in = text-to e (rndf_line_in_of e) (rndf-all e) (SpellsNetworkBy (under e true)) Law.SpellsNetwork (rndf-begins_in e) (network-to_in e)

  pub rndf-back_in : (n : Network Field) (text : Bytes) → Law.SpellsText (reading (law_of e)) Law.SpellsNetwork n text → SpellsRndfIn e n text
  rndf-back_in = text-back e (rndf_line_in_of e) (rndf-all e) (SpellsNetworkBy (under e true)) Law.SpellsNetwork (network-back_in e)

  pub mdf-to_in : (n : Mission Field) (text : Bytes) → SpellsMdf n text → Law.SpellsText (reading (law_of e)) Law.SpellsMission n text
  mdf-to_in = text-to e the_mdf_line_of (mdf-all e) SpellsMission Law.SpellsMission mdf-begins (mission-to_in e)

  pub mdf-back_in : (n : Mission Field) (text : Bytes) → Law.SpellsText (reading (law_of e)) Law.SpellsMission n text → SpellsMdf n text
  mdf-back_in = text-back e the_mdf_line_of (mdf-all e) SpellsMission Law.SpellsMission (mission-back_in e)

-- in the present one
pub rndf-to : (n : Network Field) (text : Bytes) → SpellsRndf n text → Short.SpellsRndf n text
rndf-to = rndf-to_in march

pub rndf-back : (n : Network Field) (text : Bytes) → Short.SpellsRndf n text → SpellsRndf n text
rndf-back = rndf-back_in march

pub mdf-to : (n : Mission Field) (text : Bytes) → SpellsMdf n text → Short.SpellsMdf n text
mdf-to = mdf-to_in march

pub mdf-back : (n : Mission Field) (text : Bytes) → Short.SpellsMdf n text → SpellsMdf n text
mdf-back = mdf-back_in march
