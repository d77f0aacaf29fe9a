-- What is settled of each fault alone, of an RNDF and of an MDF, from what the theory says of statements. Assumes nothing.
use mathlib.Core.Path.{◌≡◌, sym, subst}
use Prim.Native.Nat.{ℕ}
use Rattle.terms.specs.Ascii.{Bytes}
use Rattle.line.specs.Content.{Field}
use Rattle.law.specs.Network.{Network, Mission, SpellsNetwork, SpellsMission, SpellsText, reading}
use Rattle.law.specs.Tables.{Lent, MissionLent}
use Rattle.law.specs.Faults.{RndfFault, MdfFault, Sound, FirstFault}
use Rattle.grammar.specs.Editions.{Edition, law_of}
use Rattle.editions.proofs.Later.{later}
use Rattle.text.proofs.Theorems.{one-rndf_in, one-mdf}
use Rattle.form_faults.proofs.FormFaults as F
use Rattle.fault_lines.specs.FaultLines.{FirstMdfFault}
use Rattle.fault_lines.proofs.RndfFaults.{reference-line-one, line-not-sound}
use Rattle.fault_lines.proofs.MdfFaults.{mission-line-one, line-not-fits}
use Rattle.law_spelling.proofs.Texts.{rndf-back_in, mdf-back_in}
use Rattle.law_faults.proofs.Theorems.{rndf-bad-back_in, rndf-unended-back_in, mdf-bad-back_in, mdf-unended-back_in}
use Rattle.law_columns.specs.Files.{rndf_column_in_of, mdf_column_of}
use Rattle.law_columns.proofs.Theorems.{rndf-column-bad_in, rndf-column-fault_in, rndf-column-one_in, mdf-column-bad_in, mdf-column-fault_in, mdf-column-one_in}
use Rattle.law_tables.proofs.SameFits.{fits-back}
use Rattle.law_tables.proofs.RndfFirst.{rndf-first-back_in}
use Rattle.law_tables.proofs.MdfFirst.{mdf-first-back_in}
use Rattle.replies.specs.Replies.{an_rndf, an_mdf}
use Rattle.replies.proofs.OneAnswer.{Alone}

pub rndf-alone : (d : Edition) (text : Bytes) (t : Lent) → Alone (reading (law_of d)) (an_rndf t) text
rndf-alone d text t = record {
  one = same;
  bad-one = λ i k i' k' b b'. F.rndf-one-bad-line_in d text i k i' k' (rndf-bad-back_in d text i k b) (rndf-bad-back_in d text i' k' b');
  unended-one = λ i i' u u'. F.rndf-one-unended_in d text i i' (rndf-unended-back_in d text i u) (rndf-unended-back_in d text i' u');
  bad-or-unended = λ i k j b u. F.rndf-bad-or-unended_in d text i k j (rndf-bad-back_in d text i k b) (rndf-unended-back_in d text j u);
  bad-or-spelled = λ i k n b s. F.rndf-bad-or-spelled_in d text i k n (rndf-bad-back_in d text i k b) (rndf-back_in d n text s);
  unended-or-spelled = λ i n u s. F.rndf-unended-or-spelled_in d text i n (rndf-unended-back_in d text i u) (rndf-back_in d n text s);
  wrong-one = λ n n' s s' i k i' k' f f'. reference-line-one n text i i' k k' (rndf-first-back_in d n text (rndf-back_in d n text s) i k f) (rndf-first-back_in d n text (rndf-back_in d n text s) i' k' (of_one n n' s s' i' k' f'));
  column = rndf_column_in_of d text;
  bad-column = λ i k c b x. rndf-column-one_in d b.front b.this k c (rndf_column_in_of d text i k) x (rndf-column-bad_in d text i k b);
  wrong-column = λ n i k c f x. rndf-column-one_in d f.front f.at.this k c (rndf_column_in_of d text i k) x (rndf-column-fault_in d n text i k f);
  wrong-or-right = λ n n' s s' i k f r. line-not-sound n text (later d n text (rndf-back_in d n text s)) i k (rndf-first-back_in d n text (rndf-back_in d n text s) i k f) (subst Sound (sym (same n n' s s')) r);
}
  where
    Spelled : Network Field → Type 0
    Spelled n = SpellsText (reading (law_of d)) SpellsNetwork n text

    same : (n n' : Network Field) → Spelled n → Spelled n' → n ≡ n'
    same n n' s s' = one-rndf_in d n n' text (rndf-back_in d n text s) (rndf-back_in d n' text s')

    of_one : (n n' : Network Field) → Spelled n → Spelled n' → (i k : ℕ) → FirstFault (reading (law_of d)) SpellsNetwork (RndfFault n') text i k → FirstFault (reading (law_of d)) SpellsNetwork (RndfFault n) text i k
    of_one n n' s s' i k = subst (λ (m : Network Field). FirstFault (reading (law_of d)) SpellsNetwork (RndfFault m) text i k) (sym (same n n' s s'))

-- n: the network of the RNDF, which was accepted before
pub mdf-alone : (d : Edition) (n : Network Field) (text : Bytes) (u : MissionLent) → Alone (reading (law_of d)) (an_mdf n u) text
mdf-alone d n text u = record {
  one = same;
  bad-one = λ i k i' k' b b'. F.mdf-one-bad-line text i k i' k' (mdf-bad-back_in d text i k b) (mdf-bad-back_in d text i' k' b');
  unended-one = λ i i' x y. F.mdf-one-unended text i i' (mdf-unended-back_in d text i x) (mdf-unended-back_in d text i' y);
  bad-or-unended = λ i k j b x. F.mdf-bad-or-unended text i k j (mdf-bad-back_in d text i k b) (mdf-unended-back_in d text j x);
  bad-or-spelled = λ i k m b s. F.mdf-bad-or-spelled text i k m (mdf-bad-back_in d text i k b) (mdf-back_in d m text s);
  unended-or-spelled = λ i m x s. F.mdf-unended-or-spelled text i m (mdf-unended-back_in d text i x) (mdf-back_in d m text s);
  wrong-one = λ m m' s s' i k i' k' f f'. mission-line-one n text i i' k k' (first_back m s i k f) (first_back m' s' i' k' f');
  column = mdf_column_of text;
  bad-column = λ i k c b x. mdf-column-one_in d b.front b.this k c (mdf_column_of text i k) x (mdf-column-bad_in d text i k b);
  wrong-column = λ m i k c f x. mdf-column-one_in d f.front f.at.this k c (mdf_column_of text i k) x (mdf-column-fault_in d n text i k f);
  wrong-or-right = λ m m' s s' i k f r. line-not-fits n m' text (mdf-back_in d m' text s') i k (first_back m s i k f) (fits-back n m' r);
}
  where
    Spelled : Mission Field → Type 0
    Spelled m = SpellsText (reading (law_of d)) SpellsMission m text

    same : (m m' : Mission Field) → Spelled m → Spelled m' → m ≡ m'
    same m m' s s' = one-mdf m m' text (mdf-back_in d m text s) (mdf-back_in d m' text s')

    first_back : (m : Mission Field) → Spelled m → (i k : ℕ) → FirstFault (reading (law_of d)) SpellsMission (MdfFault n) text i k → FirstMdfFault n text i k
    first_back m s = mdf-first-back_in n m text (mdf-back_in d m text s) d
