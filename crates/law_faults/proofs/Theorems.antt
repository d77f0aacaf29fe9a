-- THE THEOREMS: the law's bad lines and unended texts are those that go through the places, for the RNDF and for the MDF, from one development (BadLines). Assumes nothing.
use mathlib.Core.Bool.{true, false}
use Prim.Native.Nat.{ℕ}
use Rattle.terms.specs.Ascii.{Bytes}
use Rattle.line.specs.Content.{Field}
use Rattle.grammar.specs.Editions.{Edition, march, law_of}
use Rattle.grammar.specs.Network.{under, SpellsNetworkBy}
use Rattle.grammar.specs.Mission.{SpellsMission}
use Rattle.grammar.specs.Places.{rndf_by, name_due}
use Rattle.grammar.specs.MissionPlaces.{mdf}
use Rattle.grammar.specs.MissionPlaces as Mdf-at
use Rattle.text.specs.RndfLines.{rndf_line_in_of}
use Rattle.text.specs.MdfLines.{the_mdf_line_of}
use Rattle.text.specs.RndfWords.{rndf_lexis_in}
use Rattle.text.specs.MdfWords.{mdf_lexis}
use Rattle.form_faults.specs.FormFaults.{RndfBadLineIn, RndfUnendedIn, RndfBadLine, RndfUnended, MdfBadLine, MdfUnended}
use Rattle.law.specs.Network.{reading, present}
use Rattle.law.specs.Network as Law
use Rattle.law.specs.Faults.{BadLine, Unended}
use Rattle.law_faults.proofs.BadLines.{bad-to, bad-back, unended-to, unended-back}
use Rattle.law_faults.proofs.Rndf.{rndf-needs_in, rndf-lenient-needs_in}
use Rattle.law_faults.proofs.Mdf.{mdf-needs_in, mdf-lenient-needs_in}

-- ## In each edition
module _ (e : Edition) where
  -- an RNDF: 2 to 9, and 25
  pub rndf-bad-to_in : (text : Bytes) (i n : ℕ) → RndfBadLineIn e text i n → BadLine (reading (law_of e)) Law.SpellsNetwork text i n
  rndf-bad-to_in = bad-to (rndf_by Field (under e true)) (rndf_lexis_in e) (rndf_line_in_of e) (SpellsNetworkBy (under e true)) (SpellsNetworkBy (under e false)) Law.SpellsNetwork name_due (rndf-needs_in e) (rndf-lenient-needs_in e)

  pub rndf-bad-back_in : (text : Bytes) (i n : ℕ) → BadLine (reading (law_of e)) Law.SpellsNetwork text i n → RndfBadLineIn e text i n
  rndf-bad-back_in = bad-back (rndf_by Field (under e true)) (rndf_lexis_in e) (rndf_line_in_of e) (SpellsNetworkBy (under e true)) (SpellsNetworkBy (under e false)) Law.SpellsNetwork name_due (rndf-needs_in e) (rndf-lenient-needs_in e)

  -- 10
  pub rndf-unended-to_in : (text : Bytes) (i : ℕ) → RndfUnendedIn e text i → Unended (reading (law_of e)) Law.SpellsNetwork text i
  rndf-unended-to_in = unended-to (rndf_by Field (under e true)) (rndf_lexis_in e) (rndf_line_in_of e) (SpellsNetworkBy (under e true)) (SpellsNetworkBy (under e false)) Law.SpellsNetwork name_due (rndf-needs_in e) (rndf-lenient-needs_in e)

  pub rndf-unended-back_in : (text : Bytes) (i : ℕ) → Unended (reading (law_of e)) Law.SpellsNetwork text i → RndfUnendedIn e text i
  rndf-unended-back_in = unended-back (rndf_by Field (under e true)) (rndf_lexis_in e) (rndf_line_in_of e) (SpellsNetworkBy (under e true)) (SpellsNetworkBy (under e false)) Law.SpellsNetwork name_due (rndf-needs_in e) (rndf-lenient-needs_in e)

  -- an MDF
  pub mdf-bad-to_in : (text : Bytes) (i n : ℕ) → MdfBadLine text i n → BadLine (reading (law_of e)) Law.SpellsMission text i n
  mdf-bad-to_in = bad-to (mdf Field) mdf_lexis the_mdf_line_of SpellsMission SpellsMission Law.SpellsMission Mdf-at.name_due (mdf-needs_in e) (mdf-lenient-needs_in e)

  pub mdf-bad-back_in : (text : Bytes) (i n : ℕ) → BadLine (reading (law_of e)) Law.SpellsMission text i n → MdfBadLine text i n
  mdf-bad-back_in = bad-back (mdf Field) mdf_lexis the_mdf_line_of SpellsMission SpellsMission Law.SpellsMission Mdf-at.name_due (mdf-needs_in e) (mdf-lenient-needs_in e)

  pub mdf-unended-to_in : (text : Bytes) (i : ℕ) → MdfUnended text i → Unended (reading (law_of e)) Law.SpellsMission text i
  mdf-unended-to_in = unended-to (mdf Field) mdf_lexis the_mdf_line_of SpellsMission SpellsMission Law.SpellsMission Mdf-at.name_due (mdf-needs_in e) (mdf-lenient-needs_in e)

  pub mdf-unended-back_in : (text : Bytes) (i : ℕ) → Unended (reading (law_of e)) Law.SpellsMission text i → MdfUnended text i
  mdf-unended-back_in = unended-back (mdf Field) mdf_lexis the_mdf_line_of SpellsMission SpellsMission Law.SpellsMission Mdf-at.name_due (mdf-needs_in e) (mdf-lenient-needs_in e)

-- ## In the present one
pub rndf-bad-to : (text : Bytes) (i n : ℕ) → RndfBadLine text i n → BadLine present Law.SpellsNetwork text i n
rndf-bad-to = rndf-bad-to_in march

pub rndf-bad-back : (text : Bytes) (i n : ℕ) → BadLine present Law.SpellsNetwork text i n → RndfBadLine text i n
rndf-bad-back = rndf-bad-back_in march

pub rndf-unended-to : (text : Bytes) (i : ℕ) → RndfUnended text i → Unended present Law.SpellsNetwork text i
rndf-unended-to = rndf-unended-to_in march

pub rndf-unended-back : (text : Bytes) (i : ℕ) → Unended present Law.SpellsNetwork text i → RndfUnended text i
rndf-unended-back = rndf-unended-back_in march

pub mdf-bad-to : (text : Bytes) (i n : ℕ) → MdfBadLine text i n → BadLine present Law.SpellsMission text i n
mdf-bad-to = mdf-bad-to_in march

pub mdf-bad-back : (text : Bytes) (i n : ℕ) → BadLine present Law.SpellsMission text i n → MdfBadLine text i n
mdf-bad-back = mdf-bad-back_in march

pub mdf-unended-to : (text : Bytes) (i : ℕ) → MdfUnended text i → Unended present Law.SpellsMission text i
mdf-unended-to = mdf-unended-to_in march

pub mdf-unended-back : (text : Bytes) (i : ℕ) → Unended present Law.SpellsMission text i → MdfUnended text i
mdf-unended-back = mdf-unended-back_in march
