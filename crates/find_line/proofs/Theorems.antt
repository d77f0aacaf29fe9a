-- THE THEOREMS: the line that is found is where the row-th statement of its kind stands. For every text without a fault of 2 to 10. Assumes nothing.
use mathlib.Core.Path.{◌≡◌, sym, ap, ◌∙◌}
use mathlib.Core.List.{List}
use mathlib.Core.Bool.{false}
use Prim.Native.Nat.{ℕ, ◌<◌, ◌≤◌}
use native.Mathlib.Omega.{arith}
use lib.ListN.{length}
use lib.Dec.{eqb}
use borrow.Author.Tests.{ne_eqb, ltb-true}
use Rattle.terms.specs.Ascii.{Bytes}
use Rattle.line.specs.Content.{Field}
use Rattle.line.specs.Lines.{lines_of}
use Rattle.grammar.specs.Statements as Rndf
use Rattle.grammar.specs.MissionStatements as Mdf
use Rattle.grammar.specs.PlaceRows.{kind_row, mission_kind_row}
use Rattle.grammar.specs.Renamed.{statement_named, order_named}
use Rattle.text.specs.Answers.{read}
use Rattle.text.proofs.Theorems.{read-rndf, read-mdf}
use Rattle.fill.specs.FirstLines.{the_place_of}
use Rattle.statement.specs.declared.Statement.{Statement}
use Rattle.statement.specs.declared.Order.{Order}
use Rattle.statement.specs.Meaning.{meant}
use Rattle.statement.specs.MissionMeaning as MM
use Rattle.statement.specs.Kinds.{kind_of, written}
use Rattle.statement.specs.MissionKinds as MK
use Rattle.statement.proofs.Laws.{means}
use Rattle.statement.proofs.MissionLaws as ML
use Rattle.made_out.specs.Names.{the_the_stretch_of}
use Rattle.place.specs.Step.{first_place, over_of}
use Rattle.judge.specs.RndfLine.{rndf_judging}
use Rattle.judge.proofs.RndfTies.{row_in}
use Rattle.mission_place.specs.Step as MP
use Rattle.mission_judge.specs.MdfLine.{mdf_judging}
use Rattle.mission_judge.proofs.MdfTies as MT
use Rattle.walk.specs.declared.Seen.{Seen}
use Rattle.walk.specs.Standing.{Where, places_in, over}
use Rattle.walk.specs.Seeing.{none_seen, seen_more, see}
use Rattle.walk.proofs.SeenLaws.{line_at, seen-there}
use Rattle.walk.proofs.RndfWalk as R
use Rattle.walk.proofs.MdfWalk as M
use Rattle.refusal.proofs.Sized.{not_too-long}
use Rattle.find_line.proofs.Counting.{as-walked}
use Rattle.find_line.proofs.RndfLines.{rndf-line-has}
use Rattle.find_line.proofs.MdfLines.{mdf-line-has}
use Rattle.find_line.specs.FoundLines.{most, rndf_line_kind_of, mdf_line_kind_of, rndf_line_of, mdf_line_of, rndf_line_in, mdf_line_in}

-- a line that has no kind is none of a kind
no_kind : (k : Rndf.Kind) → eqb 30 (kind_row k) ≡ false
no_kind k = ne_eqb 30 (kind_row k) (λ (e : 30 ≡ kind_row k). let h : kind_row k < 30 = ltb-true (kind_row k) 30 (row_in k) in omega arith)

module _ (k : Rndf.Kind) (row : ℕ) where
  by_meaning : (w : Where) (s : Statement) (c : Seen) → see kind_of (kind_row k) row w s c ≡ see kind_of (kind_row k) row w (written (meant s)) c
  by_meaning w s c = ap (λ (m : Rndf.Statement _). seen_more (eqb (kind_row m.kind) (kind_row k)) row w.line c) (sym (means (meant s).kind (meant s).val))

  pub rndf-line-there : (text : Bytes) (ts : List (Rndf.Statement Field)) → read-rndf text ≡ read ts → row < length (Rndf.of_kind k ts) → rndf_line_of text (kind_row k) row ≡ line_at (places_in text) (the_place_of (Rndf.lines Field) k ts row)
  unfolding rndf_line_of
  rndf-line-there text ts e h =
      ap (λ (c : Seen). c.line) (as-walked rndf_judging over_of kind_of rndf_line_kind_of rndf-line-has (kind_row k) (no_kind k) row (lines_of text) first_place none_seen 0 1 _ (R.walk-read (see kind_of (kind_row k) row) by_meaning none_seen text ts e))
      ∙ ap (λ (f : Where → Rndf.Statement Field → Seen → Seen). (over f (places_in text) ts none_seen).line) told
      ∙ seen-there (Rndf.lines Field) k (λ t. eqb (kind_row t.kind) (kind_row k)) (R.of_kind_of k) row (places_in text) ts (R.rndf_as-many text ts e) none_seen row (omega arith) h
    where
      told : ◌≡◌ {A = Where → Rndf.Statement Field → Seen → Seen} (λ w t. see kind_of (kind_row k) row w (R.told_as t)) (λ w t c. seen_more (eqb (kind_row t.kind) (kind_row k)) row w.line c)
      told = λ i w t c. seen_more (eqb (kind_row (means t.kind (statement_named the_the_stretch_of t).val i).kind) (kind_row k)) row w.line c

no-order : (k : Mdf.Kind) → eqb 13 (mission_kind_row k) ≡ false
no-order k = ne_eqb 13 (mission_kind_row k) (λ (e : 13 ≡ mission_kind_row k). let h : mission_kind_row k < 13 = ltb-true (mission_kind_row k) 13 (MT.row_in k) in omega arith)

module _ (k : Mdf.Kind) (row : ℕ) where
  by_order : (w : Where) (s : Order) (c : Seen) → see MK.order_of (mission_kind_row k) row w s c ≡ see MK.order_of (mission_kind_row k) row w (MK.written (MM.meant s)) c
  by_order w s c = ap (λ (m : Mdf.Statement _). seen_more (eqb (mission_kind_row m.kind) (mission_kind_row k)) row w.line c) (sym (ML.means (MM.meant s).kind (MM.meant s).val))

  pub mdf-line-there : (text : Bytes) (ts : List (Mdf.Statement Field)) → read-mdf text ≡ read ts → row < length (Mdf.of_kind k ts) → mdf_line_of text (mission_kind_row k) row ≡ line_at (places_in text) (the_place_of (Mdf.orders Field) k ts row)
  unfolding mdf_line_of
  mdf-line-there text ts e h =
      ap (λ (c : Seen). c.line) (as-walked mdf_judging MP.over_of MK.order_of mdf_line_kind_of mdf-line-has (mission_kind_row k) (no-order k) row (lines_of text) MP.first_place none_seen 0 1 _ (M.walk-read (see MK.order_of (mission_kind_row k) row) by_order none_seen text ts e))
      ∙ ap (λ (f : Where → Mdf.Statement Field → Seen → Seen). (over f (places_in text) ts none_seen).line) told
      ∙ seen-there (Mdf.orders Field) k (λ t. eqb (mission_kind_row t.kind) (mission_kind_row k)) (M.of_kind_of k) row (places_in text) ts (M.mdf_as-many text ts e) none_seen row (omega arith) h
    where
      told : ◌≡◌ {A = Where → Mdf.Statement Field → Seen → Seen} (λ w t. see MK.order_of (mission_kind_row k) row w (M.told_as t)) (λ w t c. seen_more (eqb (mission_kind_row t.kind) (mission_kind_row k)) row w.line c)
      told = λ i w t c. seen_more (eqb (mission_kind_row (ML.means t.kind (order_named the_the_stretch_of t).val i).kind) (mission_kind_row k)) row w.line c

-- what the functions answer of a text that is not too long
module _ (text : Bytes) (kind row : ℕ) (size : length text ≤ most) where
  pub rndf-line-sized : rndf_line_in text kind row ≡ rndf_line_of text kind row
  unfolding rndf_line_in
  rndf-line-sized = not_too-long text 0 (rndf_line_of text kind row) size

  pub mdf-line-sized : mdf_line_in text kind row ≡ mdf_line_of text kind row
  unfolding mdf_line_in
  mdf-line-sized = not_too-long text 0 (mdf_line_of text kind row) size
