-- THE THEOREMS of bad lines and unended texts, for the RNDF and for the MDF, from one development (FileFaults). Assumes nothing.
use mathlib.Core.Path.{◌≡◌}
use mathlib.Core.List.{List}
use mathlib.Core.Logic.{◌⊎◌}
use mathlib.Core.Bool.{true}
use Prim.Native.Nat.{ℕ, suc, ◌≤◌}
use native.Mathlib.Omega.{arith}
use lib.ListN.{length}
use Rattle.terms.specs.Ascii.{Bytes}
use Rattle.line.specs.Text.{Cut}
use Rattle.line.specs.Content.{Field}
use Rattle.grammar.specs.Editions.{Edition, march}
use Rattle.grammar.specs.Network.{Network, under, SpellsNetworkBy}
use Rattle.grammar.specs.Mission.{Mission, SpellsMission}
use Rattle.grammar.specs.Places.{name_due}
use Rattle.grammar.specs.MissionPlaces.{mdf}
use Rattle.grammar.specs.MissionPlaces as Mdf-at
use Rattle.grammar.proofs.StandLaws.{lenient-nine}
use Rattle.text.specs.RndfLines.{rndf_line_in_of}
use Rattle.text.specs.MdfLines.{the_mdf_line_of}
use Rattle.text.specs.RndfWords.{rndf_lexis_in}
use Rattle.text.specs.MdfWords.{mdf_lexis}
use Rattle.text.specs.Spelling.{SpellsRndfIn, SpellsRndf, SpellsMdf}
use Rattle.text.specs.Refusals.{Begin, Hopeless}
use Rattle.text.specs.Answers.{faulty, short}
use Rattle.text.proofs.Theorems.{places, read-rndf_in, read-rndf, rndf-file_in, read-mdf, mdf-file}
use Rattle.form_faults.specs.FormFaults.{RndfBadLineIn, RndfUnendedIn, RndfBadLine, RndfUnended, MdfBadLine, MdfUnended}
use Rattle.form_faults.proofs.FileFaults as F

-- ## RNDF, in each edition
module _ (e : Edition) where
  -- every line is good, and something is still owed
  abbrev pub RndfOpenIn : List Bytes → Type 0
  RndfOpenIn = F.Open (places e) (rndf_lexis_in e) (rndf_line_in_of e) (SpellsNetworkBy (under e true)) name_due (rndf-file_in e)

  -- a line and a number of 2 to 9, or 25, are answered exactly if the line is the first with a fault, and the number is the one of that fault
  pub rndf-bad-line-right_in : (text : Bytes) (i n : ℕ) → read-rndf_in e text ≡ faulty i n → RndfBadLineIn e text i n
  rndf-bad-line-right_in = F.bad-line-right (places e) (rndf_lexis_in e) (rndf_line_in_of e) (SpellsNetworkBy (under e true)) name_due (rndf-file_in e)

  pub rndf-bad-line-only_in : (text : Bytes) (i n : ℕ) → RndfBadLineIn e text i n → read-rndf_in e text ≡ faulty i n
  rndf-bad-line-only_in = F.bad-line-only (places e) (rndf_lexis_in e) (rndf_line_in_of e) (SpellsNetworkBy (under e true)) name_due (rndf-file_in e)

  pub rndf-two-to-nine-or_25_in : (text : Bytes) (i n : ℕ) → RndfBadLineIn e text i n → ((2 ≤ n) × (n ≤ 9)) ⊎ (n ≡ 25)
  rndf-two-to-nine-or_25_in = F.two-to-nine-or_25 (places e) (rndf_lexis_in e) (rndf_line_in_of e) (SpellsNetworkBy (under e true)) name_due (rndf-file_in e)

  -- the lines before it begin some well-formed text, and none begins with them and it
  pub rndf-begins-some_in : (text : Bytes) (i n : ℕ) (b : RndfBadLineIn e text i n) → Begin (SpellsRndfIn e) b.before
  rndf-begins-some_in = F.begins-some (places e) (rndf_lexis_in e) (rndf_line_in_of e) (SpellsNetworkBy (under e true)) name_due (rndf-file_in e)

  pub rndf-hopeless_in : (text : Bytes) (i n : ℕ) (b : RndfBadLineIn e text i n) → Hopeless (SpellsRndfIn e) b.before b.this
  rndf-hopeless_in = F.hopeless (places e) (rndf_lexis_in e) (rndf_line_in_of e) (SpellsNetworkBy (under e true)) name_due (rndf-file_in e)

  -- 10 is answered exactly if the text is unended: if every line is good, and something is still owed
  pub rndf-unended-right_in : (text : Bytes) (i : ℕ) → read-rndf_in e text ≡ short i → RndfUnendedIn e text i
  rndf-unended-right_in = F.unended-right (places e) (rndf_lexis_in e) (rndf_line_in_of e) (SpellsNetworkBy (under e true)) name_due (rndf-file_in e)

  pub rndf-unended-only_in : (text : Bytes) (i : ℕ) → RndfUnendedIn e text i → read-rndf_in e text ≡ short i
  rndf-unended-only_in = F.unended-only (places e) (rndf_lexis_in e) (rndf_line_in_of e) (SpellsNetworkBy (under e true)) name_due (rndf-file_in e)

  pub rndf-unended_open_in : (text : Bytes) (i : ℕ) (u : RndfUnendedIn e text i) → RndfOpenIn u.lines
  rndf-unended_open_in = F.unended_open (places e) (rndf_lexis_in e) (rndf_line_in_of e) (SpellsNetworkBy (under e true)) name_due (rndf-file_in e)

  pub rndf_open-unended_in : (text : Bytes) (lines : List Bytes) → Cut text lines → RndfOpenIn lines → RndfUnendedIn e text (suc (length lines))
  rndf_open-unended_in = F.open-unended (places e) (rndf_lexis_in e) (rndf_line_in_of e) (SpellsNetworkBy (under e true)) name_due (rndf-file_in e)

  -- every text is well-formed, or has a bad line, or is unended; and only one of these, in one way
  pub rndf-one-of-three_in : (text : Bytes) → ((n : Network Field) × SpellsRndfIn e n text) ⊎ (((i : ℕ) × (n : ℕ) × RndfBadLineIn e text i n) ⊎ ((i : ℕ) × RndfUnendedIn e text i))
  rndf-one-of-three_in = F.one_of_three (places e) (rndf_lexis_in e) (rndf_line_in_of e) (SpellsNetworkBy (under e true)) name_due (rndf-file_in e)

  pub rndf-one-bad-line_in : (text : Bytes) (i n i' n' : ℕ) → RndfBadLineIn e text i n → RndfBadLineIn e text i' n' → (i ≡ i') × (n ≡ n')
  rndf-one-bad-line_in = F.one-bad-line (places e) (rndf_lexis_in e) (rndf_line_in_of e) (SpellsNetworkBy (under e true)) name_due (rndf-file_in e)

  pub rndf-one-unended_in : (text : Bytes) (i i' : ℕ) → RndfUnendedIn e text i → RndfUnendedIn e text i' → i ≡ i'
  rndf-one-unended_in = F.one-unended (places e) (rndf_lexis_in e) (rndf_line_in_of e) (SpellsNetworkBy (under e true)) name_due (rndf-file_in e)

  pub rndf-bad-or-unended_in : (text : Bytes) (i n k : ℕ) → RndfBadLineIn e text i n → RndfUnendedIn e text k → ⊥
  rndf-bad-or-unended_in = F.bad-or-unended (places e) (rndf_lexis_in e) (rndf_line_in_of e) (SpellsNetworkBy (under e true)) name_due (rndf-file_in e)

  pub rndf-bad-or-spelled_in : (text : Bytes) (i n : ℕ) (net : Network Field) → RndfBadLineIn e text i n → SpellsRndfIn e net text → ⊥
  rndf-bad-or-spelled_in = F.bad-or-spelled (places e) (rndf_lexis_in e) (rndf_line_in_of e) (SpellsNetworkBy (under e true)) name_due (rndf-file_in e)

  pub rndf-unended-or-spelled_in : (text : Bytes) (i : ℕ) (net : Network Field) → RndfUnendedIn e text i → SpellsRndfIn e net text → ⊥
  rndf-unended-or-spelled_in = F.unended-or-spelled (places e) (rndf_lexis_in e) (rndf_line_in_of e) (SpellsNetworkBy (under e true)) name_due (rndf-file_in e)

-- in the present edition
abbrev pub RndfOpen : List Bytes → Type 0
RndfOpen = RndfOpenIn march

pub rndf-bad-line-right : (text : Bytes) (i n : ℕ) → read-rndf text ≡ faulty i n → RndfBadLine text i n
rndf-bad-line-right = rndf-bad-line-right_in march

pub rndf-bad-line-only : (text : Bytes) (i n : ℕ) → RndfBadLine text i n → read-rndf text ≡ faulty i n
rndf-bad-line-only = rndf-bad-line-only_in march

pub rndf-two-to-nine-or_25 : (text : Bytes) (i n : ℕ) → RndfBadLine text i n → ((2 ≤ n) × (n ≤ 9)) ⊎ (n ≡ 25)
rndf-two-to-nine-or_25 = rndf-two-to-nine-or_25_in march

pub rndf-begins-some : (text : Bytes) (i n : ℕ) (b : RndfBadLine text i n) → Begin SpellsRndf b.before
rndf-begins-some = rndf-begins-some_in march

pub rndf-hopeless : (text : Bytes) (i n : ℕ) (b : RndfBadLine text i n) → Hopeless SpellsRndf b.before b.this
rndf-hopeless = rndf-hopeless_in march

pub rndf-unended-right : (text : Bytes) (i : ℕ) → read-rndf text ≡ short i → RndfUnended text i
rndf-unended-right = rndf-unended-right_in march

pub rndf-unended-only : (text : Bytes) (i : ℕ) → RndfUnended text i → read-rndf text ≡ short i
rndf-unended-only = rndf-unended-only_in march

pub rndf-unended_open : (text : Bytes) (i : ℕ) (u : RndfUnended text i) → RndfOpen u.lines
rndf-unended_open = rndf-unended_open_in march

pub rndf_open-unended : (text : Bytes) (lines : List Bytes) → Cut text lines → RndfOpen lines → RndfUnended text (suc (length lines))
rndf_open-unended = rndf_open-unended_in march

pub rndf-one-of-three : (text : Bytes) → ((n : Network Field) × SpellsRndf n text) ⊎ (((i : ℕ) × (n : ℕ) × RndfBadLine text i n) ⊎ ((i : ℕ) × RndfUnended text i))
rndf-one-of-three = rndf-one-of-three_in march

pub rndf-one-bad-line : (text : Bytes) (i n i' n' : ℕ) → RndfBadLine text i n → RndfBadLine text i' n' → (i ≡ i') × (n ≡ n')
rndf-one-bad-line = rndf-one-bad-line_in march

pub rndf-one-unended : (text : Bytes) (i i' : ℕ) → RndfUnended text i → RndfUnended text i' → i ≡ i'
rndf-one-unended = rndf-one-unended_in march

pub rndf-bad-or-unended : (text : Bytes) (i n k : ℕ) → RndfBadLine text i n → RndfUnended text k → ⊥
rndf-bad-or-unended = rndf-bad-or-unended_in march

pub rndf-bad-or-spelled : (text : Bytes) (i n : ℕ) (net : Network Field) → RndfBadLine text i n → SpellsRndf net text → ⊥
rndf-bad-or-spelled = rndf-bad-or-spelled_in march

pub rndf-unended-or-spelled : (text : Bytes) (i : ℕ) (net : Network Field) → RndfUnended text i → SpellsRndf net text → ⊥
rndf-unended-or-spelled = rndf-unended-or-spelled_in march

-- ## MDF
-- every line is good, and something is still owed
abbrev pub MdfOpen : List Bytes → Type 0
MdfOpen = F.Open (mdf Field) mdf_lexis the_mdf_line_of SpellsMission Mdf-at.name_due mdf-file

-- a line and a number of 2 to 9 are answered exactly if the line is the first with a fault, and the number is the one of that fault
pub mdf-bad-line-right : (text : Bytes) (i n : ℕ) → read-mdf text ≡ faulty i n → MdfBadLine text i n
mdf-bad-line-right = F.bad-line-right (mdf Field) mdf_lexis the_mdf_line_of SpellsMission Mdf-at.name_due mdf-file

pub mdf-bad-line-only : (text : Bytes) (i n : ℕ) → MdfBadLine text i n → read-mdf text ≡ faulty i n
mdf-bad-line-only = F.bad-line-only (mdf Field) mdf_lexis the_mdf_line_of SpellsMission Mdf-at.name_due mdf-file

-- an MDF has no spots: it gets no 25
pub mdf-two-to-nine : (text : Bytes) (i n : ℕ) → MdfBadLine text i n → (2 ≤ n) × (n ≤ 9)
mdf-two-to-nine = F.none-asked (mdf Field) mdf_lexis the_mdf_line_of SpellsMission Mdf-at.name_due mdf-file (λ p k v h e. let z = lenient-nine (mdf Field) p k v 25 h e in omega arith)

-- the lines before it begin some well-formed text, and none begins with them and it
pub mdf-begins-some : (text : Bytes) (i n : ℕ) (b : MdfBadLine text i n) → Begin SpellsMdf b.before
mdf-begins-some = F.begins-some (mdf Field) mdf_lexis the_mdf_line_of SpellsMission Mdf-at.name_due mdf-file

pub mdf-hopeless : (text : Bytes) (i n : ℕ) (b : MdfBadLine text i n) → Hopeless SpellsMdf b.before b.this
mdf-hopeless = F.hopeless (mdf Field) mdf_lexis the_mdf_line_of SpellsMission Mdf-at.name_due mdf-file

-- 10 is answered exactly if the text is unended: if every line is good, and something is still owed
pub mdf-unended-right : (text : Bytes) (i : ℕ) → read-mdf text ≡ short i → MdfUnended text i
mdf-unended-right = F.unended-right (mdf Field) mdf_lexis the_mdf_line_of SpellsMission Mdf-at.name_due mdf-file

pub mdf-unended-only : (text : Bytes) (i : ℕ) → MdfUnended text i → read-mdf text ≡ short i
mdf-unended-only = F.unended-only (mdf Field) mdf_lexis the_mdf_line_of SpellsMission Mdf-at.name_due mdf-file

pub mdf-unended_open : (text : Bytes) (i : ℕ) (u : MdfUnended text i) → MdfOpen u.lines
mdf-unended_open = F.unended_open (mdf Field) mdf_lexis the_mdf_line_of SpellsMission Mdf-at.name_due mdf-file

pub mdf_open-unended : (text : Bytes) (lines : List Bytes) → Cut text lines → MdfOpen lines → MdfUnended text (suc (length lines))
mdf_open-unended = F.open-unended (mdf Field) mdf_lexis the_mdf_line_of SpellsMission Mdf-at.name_due mdf-file

-- every text is well-formed, or has a bad line, or is unended; and only one of these, in one way
pub mdf-one-of-three : (text : Bytes) → ((n : Mission Field) × SpellsMdf n text) ⊎ (((i : ℕ) × (n : ℕ) × MdfBadLine text i n) ⊎ ((i : ℕ) × MdfUnended text i))
mdf-one-of-three = F.one_of_three (mdf Field) mdf_lexis the_mdf_line_of SpellsMission Mdf-at.name_due mdf-file

pub mdf-one-bad-line : (text : Bytes) (i n i' n' : ℕ) → MdfBadLine text i n → MdfBadLine text i' n' → (i ≡ i') × (n ≡ n')
mdf-one-bad-line = F.one-bad-line (mdf Field) mdf_lexis the_mdf_line_of SpellsMission Mdf-at.name_due mdf-file

pub mdf-one-unended : (text : Bytes) (i i' : ℕ) → MdfUnended text i → MdfUnended text i' → i ≡ i'
mdf-one-unended = F.one-unended (mdf Field) mdf_lexis the_mdf_line_of SpellsMission Mdf-at.name_due mdf-file

pub mdf-bad-or-unended : (text : Bytes) (i n k : ℕ) → MdfBadLine text i n → MdfUnended text k → ⊥
mdf-bad-or-unended = F.bad-or-unended (mdf Field) mdf_lexis the_mdf_line_of SpellsMission Mdf-at.name_due mdf-file

pub mdf-bad-or-spelled : (text : Bytes) (i n : ℕ) (net : Mission Field) → MdfBadLine text i n → SpellsMdf net text → ⊥
mdf-bad-or-spelled = F.bad-or-spelled (mdf Field) mdf_lexis the_mdf_line_of SpellsMission Mdf-at.name_due mdf-file

pub mdf-unended-or-spelled : (text : Bytes) (i : ℕ) (net : Mission Field) → MdfUnended text i → SpellsMdf net text → ⊥
mdf-unended-or-spelled = F.unended-or-spelled (mdf Field) mdf_lexis the_mdf_line_of SpellsMission Mdf-at.name_due mdf-file
