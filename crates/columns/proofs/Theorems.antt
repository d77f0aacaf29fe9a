-- THE THEOREMS: what the program answers for line i of a text is the column that `law_columns` finds, and so the law's (Rattle.law_columns.proofs.Theorems). Assumes nothing.
use mathlib.Core.Path.{◌≡◌, refl, sym, ap, ◌∙◌}
use Prim.Native.Nat.{ℕ, ◌≤◌}
use lib.ListN.{length}
use Rattle.terms.specs.Ascii.{Bytes}
use Rattle.line.specs.Content.{Field}
use Rattle.line.specs.Lines.{lines_of}
use Rattle.grammar.specs.Machine.{Place}
use Rattle.grammar.specs.Places.{rndf}
use Rattle.grammar.specs.MissionPlaces.{mdf}
use Rattle.text.specs.RndfWords.{rndf_lexis}
use Rattle.text.specs.MdfWords.{mdf_lexis}
use Rattle.place.specs.Step.{first_place}
use Rattle.place.proofs.Theorems.{start-sound, start_is}
use Rattle.mission_place.specs.Step as M
use Rattle.mission_place.proofs.Theorems as MT
use Rattle.judge.specs.RndfLine.{rndf_judging}
use Rattle.judge.proofs.RndfTies.{rndf_ties}
use Rattle.mission_judge.specs.MdfLine.{mdf_judging}
use Rattle.mission_judge.proofs.MdfTies.{mdf_ties}
use Rattle.refusal.specs.Size.{most}
use Rattle.refusal.proofs.Sized.{not_too-long}
use Rattle.law_columns.specs.Finding.{column_from, column_in}
use Rattle.law_columns.specs.Files.{rndf_low, mdf_low, rndf_column_of, mdf_column_of}
use Rattle.columns.specs.RndfColumns.{rndf_wrong, rndf_column_in}
use Rattle.columns.specs.MdfColumns.{mdf_wrong, mdf_column_in}
use Rattle.columns.proofs.Ties.{lines-column}
use Rattle.columns.proofs.RndfTies.{rndf_locates}
use Rattle.columns.proofs.MdfTies.{mdf_locates}

pub rndf-column-is : (text : Bytes) (i n : ℕ) → length text ≤ most → rndf_column_in text i n ≡ rndf_column_of text i n
unfolding rndf_column_in column_in
rndf-column-is text i n h =
    not_too-long text 0 _ h
    ∙ lines-column (rndf Field) rndf_lexis rndf_judging rndf_ties rndf_low rndf_wrong rndf_locates (lines_of text) first_place start-sound 0 1 i n
    ∙ ap (λ (p : Place (rndf Field)). column_from (rndf Field) rndf_lexis rndf_low p 0 1 i n (lines_of text)) start_is

pub mdf-column-is : (text : Bytes) (i n : ℕ) → length text ≤ most → mdf_column_in text i n ≡ mdf_column_of text i n
unfolding mdf_column_in column_in
mdf-column-is text i n h =
    not_too-long text 0 _ h
    ∙ lines-column (mdf Field) mdf_lexis mdf_judging mdf_ties mdf_low (λ p. mdf_wrong) mdf_locates (lines_of text) M.first_place MT.start-sound 0 1 i n
    ∙ ap (λ (p : Place (mdf Field)). column_from (mdf Field) mdf_lexis mdf_low p 0 1 i n (lines_of text)) MT.start_is
