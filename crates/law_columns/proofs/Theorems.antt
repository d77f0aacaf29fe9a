-- THE THEOREMS: the column that is found is the law's, for every line that a reader of an RNDF or an MDF refuses with 2 to 9, 12 to 18 or 25; and there is no other. Assumes nothing.
use mathlib.Core.Path.{◌≡◌, refl, sym, ap, ◌∙◌}
use mathlib.Core.List.{List, [], ◌∷◌}
use mathlib.Core.Bool.{true, false}
use mathlib.Core.Logic.{inl, inr}
use Prim.Native.Nat.{ℕ, ◌<◌}
use native.Mathlib.Omega.{arith}
use lib.ListN.{length}
use Rattle.terms.specs.Ascii.{Bytes}
use Rattle.line.specs.Content.{Field}
use Rattle.grammar.specs.Editions.{Edition, march, law_of}
use Rattle.grammar.specs.Network.{under, SpellsNetworkBy}
use Rattle.grammar.specs.Mission.{SpellsMission}
use Rattle.grammar.specs.Places.{rndf_by, name_due}
use Rattle.grammar.specs.MissionPlaces.{mdf}
use Rattle.grammar.specs.MissionPlaces as Mdf-at
use Rattle.text.specs.RndfLines.{rndf_line_in_of}
use Rattle.text.specs.MdfLines.{the_mdf_line_of}
use Rattle.text.specs.RndfWords.{rndf_lexis_in}
use Rattle.text.specs.MdfWords.{mdf_lexis}
use Rattle.law.specs.Network.{Network, Line, reading, present}
use Rattle.law.specs.Network as Law
use Rattle.law.specs.Faults.{BadLine, FirstFault, RndfFault, undeclared, repeated, MdfFault, other_name, foreign_goal, unknown_id, limited_again, unlimited}
use Rattle.law_faults.proofs.Rndf.{rndf-needs_in, rndf-lenient-needs_in}
use Rattle.law_faults.proofs.Mdf.{mdf-needs_in, mdf-lenient-needs_in}
use Rattle.law_columns.specs.Columns.{Column}
use Rattle.law_columns.specs.Files.{rndf_low_in, mdf_low, rndf_column_in_of, rndf_column_of, mdf_column_of}
use Rattle.law_columns.proofs.Rndf.{rndf-lows}
use Rattle.law_columns.proofs.Mdf.{mdf-lows}
use Rattle.law_columns.proofs.One.{column-one}
use Rattle.law_columns.proofs.TextColumns.{InList, column-bad, column-fault}

long-enough : (j : ℕ) (line said : Line) → line ≡ said → j < length said → j < length line
long-enough j line said e h = rw e h

-- 12 and 13: the third field
rndf_listed : (net : Network Field) (front : List Line) (line : Line) (n : ℕ) → RndfFault net front line n → InList line n
rndf_listed net front line n (undeclared x y e q u) = record { j = 2; among = inr (inr (inr (inl refl))); enough = long-enough 2 line (Law.exit_line x y e) q (omega arith) }
rndf_listed net front line n (repeated x y x' y' c c' q a s) = record { j = 2; among = inr (inr (inr (inr (inl refl)))); enough = long-enough 2 line (Law.checkpoint_line_of x y c) q (omega arith) }

-- 14: the second field; 15 to 18: the first
mdf_listed : (net : Network Field) (front : List Line) (line : Line) (n : ℕ) → MdfFault net front line n → InList line n
mdf_listed net front line n (other_name v q u) = record { j = 1; among = inr (inr (inr (inr (inr (inl refl))))); enough = long-enough 1 line (Law.line "RNDF" (Law.name v ∷ [])) q (omega arith) }
mdf_listed net front line n (foreign_goal g q u) = record { j = 0; among = inr (inr (inr (inr (inr (inr (inl refl)))))); enough = long-enough 0 line (Law.goal_line_of g) q (omega arith) }
mdf_listed net front line n (unknown_id a q u) = record { j = 0; among = inr (inr (inr (inr (inr (inr (inr (inl refl))))))); enough = long-enough 0 line (Law.limit_line a) q (omega arith) }
mdf_listed net front line n (limited_again a b q u w s) = record { j = 0; among = inr (inr (inr (inr (inr (inr (inr (inr (inl refl)))))))); enough = long-enough 0 line (Law.limit_line a) q (omega arith) }
mdf_listed net front line n (unlimited id q u w) = record { j = 0; among = inr (inr (inr (inr (inr (inr (inr (inr (inr (inl refl))))))))); enough = long-enough 0 line (Law.line "end_speed_limits" []) q (omega arith) }

-- ## In each edition
module _ (e : Edition) where
  -- an RNDF: 2 to 9, and 25
  pub rndf-column-bad_in : (text : Bytes) (i n : ℕ) (bad : BadLine (reading (law_of e)) Law.SpellsNetwork text i n) → Column (reading (law_of e)) Law.SpellsNetwork bad.front bad.this n (rndf_column_in_of e text i n)
  rndf-column-bad_in = column-bad (rndf_by Field (under e true)) (rndf_lexis_in e) (rndf_line_in_of e) (SpellsNetworkBy (under e true)) (SpellsNetworkBy (under e false)) Law.SpellsNetwork name_due (rndf-needs_in e) (rndf-lenient-needs_in e) (rndf_low_in e) (rndf-lows e)

  -- 12 and 13
  pub rndf-column-fault_in : (net : Network Field) (text : Bytes) (i n : ℕ) (bad : FirstFault (reading (law_of e)) Law.SpellsNetwork (RndfFault net) text i n) → Column (reading (law_of e)) Law.SpellsNetwork bad.front bad.at.this n (rndf_column_in_of e text i n)
  rndf-column-fault_in net = column-fault (rndf_by Field (under e true)) (rndf_lexis_in e) (rndf_line_in_of e) (SpellsNetworkBy (under e true)) (SpellsNetworkBy (under e false)) Law.SpellsNetwork name_due (rndf-needs_in e) (rndf-lenient-needs_in e) (rndf_low_in e) (rndf-lows e) (RndfFault net) (rndf_listed net)

  -- and no other
  pub rndf-column-one_in : (front : List Line) (this : Bytes) (n c d : ℕ) → Column (reading (law_of e)) Law.SpellsNetwork front this n c → Column (reading (law_of e)) Law.SpellsNetwork front this n d → c ≡ d
  rndf-column-one_in = column-one (rndf_by Field (under e true)) (rndf_lexis_in e) (rndf_line_in_of e) (SpellsNetworkBy (under e false)) Law.SpellsNetwork name_due (rndf-lenient-needs_in e)

  -- an MDF: 2 to 9, and 25
  pub mdf-column-bad_in : (text : Bytes) (i n : ℕ) (bad : BadLine (reading (law_of e)) Law.SpellsMission text i n) → Column (reading (law_of e)) Law.SpellsMission bad.front bad.this n (mdf_column_of text i n)
  mdf-column-bad_in = column-bad (mdf Field) mdf_lexis the_mdf_line_of SpellsMission SpellsMission Law.SpellsMission Mdf-at.name_due (mdf-needs_in e) (mdf-lenient-needs_in e) mdf_low (mdf-lows e)

  -- 14 to 18
  pub mdf-column-fault_in : (net : Network Field) (text : Bytes) (i n : ℕ) (bad : FirstFault (reading (law_of e)) Law.SpellsMission (MdfFault net) text i n) → Column (reading (law_of e)) Law.SpellsMission bad.front bad.at.this n (mdf_column_of text i n)
  mdf-column-fault_in net = column-fault (mdf Field) mdf_lexis the_mdf_line_of SpellsMission SpellsMission Law.SpellsMission Mdf-at.name_due (mdf-needs_in e) (mdf-lenient-needs_in e) mdf_low (mdf-lows e) (MdfFault net) (mdf_listed net)

  -- and no other
  pub mdf-column-one_in : (front : List Line) (this : Bytes) (n c d : ℕ) → Column (reading (law_of e)) Law.SpellsMission front this n c → Column (reading (law_of e)) Law.SpellsMission front this n d → c ≡ d
  mdf-column-one_in = column-one (mdf Field) mdf_lexis the_mdf_line_of SpellsMission Law.SpellsMission Mdf-at.name_due (mdf-lenient-needs_in e)

-- ## In the present one
pub rndf-column-bad : (text : Bytes) (i n : ℕ) (bad : BadLine present Law.SpellsNetwork text i n) → Column present Law.SpellsNetwork bad.front bad.this n (rndf_column_of text i n)
rndf-column-bad = rndf-column-bad_in march

pub rndf-column-fault : (net : Network Field) (text : Bytes) (i n : ℕ) (bad : FirstFault present Law.SpellsNetwork (RndfFault net) text i n) → Column present Law.SpellsNetwork bad.front bad.at.this n (rndf_column_of text i n)
rndf-column-fault = rndf-column-fault_in march

pub rndf-column-one : (front : List Line) (this : Bytes) (n c d : ℕ) → Column present Law.SpellsNetwork front this n c → Column present Law.SpellsNetwork front this n d → c ≡ d
rndf-column-one = rndf-column-one_in march

pub mdf-column-bad : (text : Bytes) (i n : ℕ) (bad : BadLine present Law.SpellsMission text i n) → Column present Law.SpellsMission bad.front bad.this n (mdf_column_of text i n)
mdf-column-bad = mdf-column-bad_in march

pub mdf-column-fault : (net : Network Field) (text : Bytes) (i n : ℕ) (bad : FirstFault present Law.SpellsMission (MdfFault net) text i n) → Column present Law.SpellsMission bad.front bad.at.this n (mdf_column_of text i n)
mdf-column-fault = mdf-column-fault_in march

pub mdf-column-one : (front : List Line) (this : Bytes) (n c d : ℕ) → Column present Law.SpellsMission front this n c → Column present Law.SpellsMission front this n d → c ≡ d
mdf-column-one = mdf-column-one_in march
