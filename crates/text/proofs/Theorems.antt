-- THE THEOREMS of texts, for the RNDF and for the MDF, from one development (TextReading). Assumes nothing.
use mathlib.Core.Path.{◌≡◌, refl, sym, ap, ◌∙◌}
use mathlib.Core.List.{List, [], ◌∷◌, ◌++◌}
use mathlib.Core.Bool.{true, false}
use Prim.Native.Nat.{ℕ, suc}
use lib.ListN.{length}
use Rattle.terms.specs.Ascii.{Bytes}
use Rattle.line.specs.Content.{Field}
use Rattle.line.specs.Lines.{lines_of}
use Rattle.grammar.specs.Statements as Rndf
use Rattle.grammar.specs.MissionStatements as Mdf
use Rattle.grammar.specs.Editions.{Edition, march}
use Rattle.grammar.specs.Machine.{Machine, lenient}
use Rattle.grammar.specs.Network.{Network, under, SpellsNetworkBy, SpellsNetwork}
use Rattle.grammar.specs.Mission.{Mission, SpellsMission}
use Rattle.grammar.specs.Names.{network_named, mission_named}
use Rattle.grammar.specs.Places.{rndf_by, rndf, name_due}
use Rattle.grammar.specs.MissionPlaces.{mdf}
use Rattle.grammar.specs.MissionPlaces as Mdf-at
use Rattle.grammar.proofs.NetworkReading as Net
use Rattle.grammar.proofs.MissionReading as Mis
use Rattle.grammar.proofs.Theorems.{network-complete-by, network-sound-by, network-unique-by, mission-complete, mission-sound, mission-unique}
use Rattle.text.specs.RndfLines.{rndf_line_in_of, the_rndf_line_of}
use Rattle.text.specs.MdfLines.{the_mdf_line_of}
use Rattle.text.specs.Spelling.{SpellsRndfIn, SpellsRndf, SpellsMdf, Name, bytes_of, MeansNetwork, MeansMission}
use Rattle.text.specs.Refusals.{Begin, Hopeless}
use Rattle.text.specs.Answers.{Answer, faulty, short, read, read_text}
use Rattle.text.specs.RndfWords.{rndf_lexis_in, rndf_lexis}
use Rattle.text.specs.MdfWords.{mdf_lexis}
use Rattle.text.proofs.Telling.{lenient-lawful}
use Rattle.text.proofs.TextReading.{File, prepared, Means}
use Rattle.text.proofs.TextReading as T
use Rattle.text.proofs.RndfText as R
use Rattle.text.proofs.MdfText as M

-- ## RNDF, in each edition
module _ (e : Edition) where
  abbrev pub places : Machine (Rndf.lines Field)
  places = rndf_by Field (under e true)

  abbrev pub read-rndf_in : Bytes → Answer (Rndf.Statement Field)
  read-rndf_in = read_text places (rndf_lexis_in e) name_due

  pub rndf-file_in : File places (rndf_lexis_in e) (rndf_line_in_of e) (SpellsNetworkBy (under e true)) name_due
  rndf-file_in = record {
    lawful = R.rndf-lawful e;
    complete = network-complete-by (under e true);
    sound = network-sound-by (under e true);
    unique = network-unique-by (under e true);
    Good = R.Bounded;
    cost = Net.cost Field;
    good_first = tt;
    keeps = R.keeps e;
    leaves = R.leaves e;
    readied = R.readied e;
  }

  -- the same without L8's rule
  pub rndf-lenient-file_in : File (lenient places) (rndf_lexis_in e) (rndf_line_in_of e) (SpellsNetworkBy (under e false)) name_due
  rndf-lenient-file_in = record {
    lawful = lenient-lawful (R.rndf-lawful e);
    complete = network-complete-by (under e false);
    sound = network-sound-by (under e false);
    unique = network-unique-by (under e false);
    Good = R.Bounded;
    cost = Net.cost Field;
    good_first = tt;
    keeps = R.keeps e;
    leaves = λ b y. let l = R.leaves e b y in record { v = l.v; line = l.line; said = l.said; ok = l.ok; less = l.less };
    readied = λ b y g a. prepared (lenient places) (rndf_line_in_of e) b g a refl;
  }

  -- only one network is spelled by a text
  pub one-rndf_in : (n n' : Network Field) (t : Bytes) → SpellsRndfIn e n t → SpellsRndfIn e n' t → n ≡ n'
  one-rndf_in = T.one-network places (rndf_lexis_in e) (rndf_line_in_of e) (SpellsNetworkBy (under e true)) name_due rndf-file_in

-- in the present edition
abbrev pub read-rndf : Bytes → Answer (Rndf.Statement Field)
read-rndf = read-rndf_in march

pub rndf-file : File (rndf Field) rndf_lexis the_rndf_line_of SpellsNetwork name_due
rndf-file = rndf-file_in march

pub rndf-lenient-file : File (lenient (rndf Field)) rndf_lexis the_rndf_line_of (SpellsNetworkBy (under march false)) name_due
rndf-lenient-file = rndf-lenient-file_in march

-- what is answered of a text: faulty, the line is the first with a fault (its number is the judge's), the lines before it begin some well-formed text, and none begins with them and it;
-- short, lines + 1, every line is good, so the text begins some well-formed text, and is none; read, the text spells a network, by these statements
pub rndf-means : (t : Bytes) → Means (rndf Field) rndf_lexis the_rndf_line_of SpellsNetwork name_due rndf-file t (read-rndf t)
rndf-means = T.means (rndf Field) rndf_lexis the_rndf_line_of SpellsNetwork name_due rndf-file

-- and no other answer has its meaning
pub rndf-only : (t : Bytes) (r : Answer (Rndf.Statement Field)) → Means (rndf Field) rndf_lexis the_rndf_line_of SpellsNetwork name_due rndf-file t r → read-rndf t ≡ r
rndf-only = T.means-only (rndf Field) rndf_lexis the_rndf_line_of SpellsNetwork name_due rndf-file

-- some network is spelled by the text if and only if it has no fault of 2 to 10
pub rndf-well-formed : (t : Bytes) → (((ss : List (Rndf.Statement Field)) × (read-rndf t ≡ read ss)) → (n : Network Field) × SpellsRndf n t) × (((n : Network Field) × SpellsRndf n t) → (ss : List (Rndf.Statement Field)) × (read-rndf t ≡ read ss))
rndf-well-formed = T.well-formed (rndf Field) rndf_lexis the_rndf_line_of SpellsNetwork name_due rndf-file

-- only one network is: by places, and by bytes
pub one-rndf : (n n' : Network Field) (t : Bytes) → SpellsRndf n t → SpellsRndf n' t → n ≡ n'
one-rndf = T.one-network (rndf Field) rndf_lexis the_rndf_line_of SpellsNetwork name_due rndf-file

pub one-network : (n n' : Network Name) (t : Bytes) → MeansNetwork n t → MeansNetwork n' t → n ≡ n'
one-network n n' t h h' = sym h.named ∙ ap (network_named bytes_of) (one-rndf h.located h'.located t h.spelled h'.spelled) ∙ h'.named

-- ## MDF
abbrev pub read-mdf : Bytes → Answer (Mdf.Statement Field)
read-mdf = read_text (mdf Field) mdf_lexis Mdf-at.name_due

pub mdf-file : File (mdf Field) mdf_lexis the_mdf_line_of SpellsMission Mdf-at.name_due
mdf-file = record { lawful = M.mdf-lawful; complete = mission-complete; sound = mission-sound; unique = mission-unique; Good = Mis.Good Field; cost = Mis.cost Field; good_first = tt; keeps = M.keeps; leaves = M.leaves; readied = M.readied }

pub mdf-means : (t : Bytes) → Means (mdf Field) mdf_lexis the_mdf_line_of SpellsMission Mdf-at.name_due mdf-file t (read-mdf t)
mdf-means = T.means (mdf Field) mdf_lexis the_mdf_line_of SpellsMission Mdf-at.name_due mdf-file

pub mdf-only : (t : Bytes) (r : Answer (Mdf.Statement Field)) → Means (mdf Field) mdf_lexis the_mdf_line_of SpellsMission Mdf-at.name_due mdf-file t r → read-mdf t ≡ r
mdf-only = T.means-only (mdf Field) mdf_lexis the_mdf_line_of SpellsMission Mdf-at.name_due mdf-file

pub mdf-well-formed : (t : Bytes) → (((ss : List (Mdf.Statement Field)) × (read-mdf t ≡ read ss)) → (n : Mission Field) × SpellsMdf n t) × (((n : Mission Field) × SpellsMdf n t) → (ss : List (Mdf.Statement Field)) × (read-mdf t ≡ read ss))
mdf-well-formed = T.well-formed (mdf Field) mdf_lexis the_mdf_line_of SpellsMission Mdf-at.name_due mdf-file

pub one-mdf : (n n' : Mission Field) (t : Bytes) → SpellsMdf n t → SpellsMdf n' t → n ≡ n'
one-mdf = T.one-network (mdf Field) mdf_lexis the_mdf_line_of SpellsMission Mdf-at.name_due mdf-file

pub one-mission : (n n' : Mission Name) (t : Bytes) → MeansMission n t → MeansMission n' t → n ≡ n'
one-mission n n' t h h' = sym h.named ∙ ap (mission_named bytes_of) (one-mdf h.located h'.located t h.spelled h'.spelled) ∙ h'.named
