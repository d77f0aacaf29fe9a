-- THE LAWS of 12 and 13: the first line at fault of an RNDF, by the first row at fault of the exits and of the checkpoints. Assumes nothing.
use mathlib.Core.Path.{◌≡◌, sym, ap, subst, ◌∙◌}
use mathlib.Core.List.{List, [], map}
use mathlib.Core.Option.{Option, none, some}
use Prim.Native.Nat.{ℕ, ◌<◌}
use native.Mathlib.Omega.{arith}
use lib.ListN.{length, length-map}
use borrow.Author.Tests.{le-leb, lt-leb}
use Rattle.terms.specs.Ascii.{Bytes}
use Rattle.line.specs.Content.{Field}
use Rattle.grammar.specs.Statements.{Statement, PointId, lines, of_kind, checkpoint, exit}
use Rattle.grammar.specs.Network.{Network, SpellsNetwork}
use Rattle.grammar.specs.Tables.{Tables, tables_unresolved}
use Rattle.grammar.specs.References.{Sound}
use Rattle.grammar.specs.Places.{rndf, name_due}
use Rattle.grammar.specs.PlaceRows.{kind_row}
use Rattle.text.specs.Answers.{read}
use Rattle.text.specs.Spelling.{SpellsRndf}
use Rattle.text.specs.RndfLines.{the_rndf_line_of}
use Rattle.text.specs.RndfWords.{rndf_lexis}
use Rattle.text.proofs.TextReading.{spelled-read}
use Rattle.text.proofs.Theorems.{read-rndf, rndf-file}
use Rattle.fill.specs.NetworkRows.{start, fill}
use Rattle.fill.specs.Faults.{Undeclared, Repeated, ReferenceFault}
use Rattle.fill.specs.FirstFaults.{Fault, fault, first_undeclared, the_first_repeat_of, numbers_of}
use Rattle.fill.specs.FirstLines.{the_place_of, placed, earlier, first_reference}
use Rattle.fill.proofs.NetworkFills.{network_fills}
use Rattle.fill.proofs.CountLaws.{line-counts}
use Rattle.fill.proofs.FaultLaws.{first-right, first-there, none_right, none_only}
use Rattle.fill.proofs.ReferenceLaws.{undeclared_decides, repeat_decides, sound-by}
use Rattle.fill.proofs.ReferenceLines.{reference-rows, reference_decides, no-reference-fault, sound-no-fault}
use Rattle.walk.specs.Standing.{places_in}
use Rattle.walk.proofs.SeenLaws.{line_at}
use Rattle.find_line.specs.FoundLines.{rndf_line_of}
use Rattle.find_line.proofs.Theorems.{rndf-line-there}
use Rattle.fault_lines.specs.FaultLines.{FirstRndfFault, NoRndfFault}
use Rattle.fault_lines.proofs.LinesGrow.{earlier-place, same_place}
use Rattle.fault_lines.proofs.Said.{as_many}
use Rattle.fault_lines.proofs.Ties as Ties
use Rattle.fault_lines.proofs.Places.{place_in, places-differ}
use Rattle.fault_lines.proofs.Files.{rndf-clear, rndf-said, reference-one}

-- the line of an exit, and of a checkpoint, by its row
abbrev pub exit_line : Bytes → ℕ → ℕ
exit_line text row = rndf_line_of text 16 row

abbrev pub checkpoint_line_of : Bytes → ℕ → ℕ
checkpoint_line_of text row = rndf_line_of text 14 row

abbrev pub undeclared_in : Network Field → Option Fault
undeclared_in n = first_undeclared (tables_unresolved n)

abbrev pub repeated_in : Network Field → Option Fault
repeated_in n = the_first_repeat_of (numbers_of (tables_unresolved n))

-- one line and one number, of any text
pub reference-line-one : (n : Network Field) (text : Bytes) (i j k m : ℕ) → FirstRndfFault n text i k → FirstRndfFault n text j m → (i ≡ j) × (k ≡ m)
reference-line-one n text = Ties.first-line-one rndf-clear (ReferenceFault n) text (reference-one n)

module _ (n : Network Field) (text : Bytes) (h : SpellsRndf n text) where
  abbrev u : List (Statement Field)
  u = h.said

  abbrev t : Tables Field PointId
  t = tables_unresolved n

  abbrev First : ℕ → ℕ → Type 0
  First = FirstRndfFault n text

  filled : fill n.name u ≡ t
  filled = network_fills n.name n u h.net

  is_read : read-rndf text ≡ read u
  is_read = spelled-read (rndf Field) rndf_lexis the_rndf_line_of SpellsNetwork name_due rndf-file n text h

  -- ## Rows and their lines
  exit_rows : length t.exits ≡ length (of_kind exit u)
  unfolding fill
  exit_rows = ap (λ (t : Tables Field PointId). length t.exits) (sym filled) ∙ (line-counts u (start n.name)).exits

  checkpoint_rows : length t.checkpoints ≡ length (of_kind checkpoint u)
  unfolding fill
  checkpoint_rows = ap (λ (t : Tables Field PointId). length t.checkpoints) (sym filled) ∙ (line-counts u (start n.name)).checkpoints

  pub exit-there : (f : Fault) → undeclared_in n ≡ some f → (f.row < length (of_kind exit u)) × (f.number ≡ 12)
  exit-there f e =
      let r = first-right (undeclared_decides n) [] (map (λ a. a.entry) t.exits) f e in
      let l = first-there (Undeclared n) (map (λ a. a.entry) t.exits) f.row f.number r in
      let m = length-map t.exits (λ a. a.entry) in
      let c = exit_rows in
      (omega arith, r.fault.number)

  pub checkpoint-there : (f : Fault) → repeated_in n ≡ some f → (f.row < length (of_kind checkpoint u)) × (f.number ≡ 13)
  checkpoint-there f e =
      let r = first-right repeat_decides [] (numbers_of t) f e in
      let l = first-there Repeated (numbers_of t) f.row f.number r in
      let m = length-map t.checkpoints (λ a. a.number) in
      let c = checkpoint_rows in
      (omega arith, r.fault.number)

  abbrev exit-place : ℕ → ℕ
  exit-place = the_place_of (lines Field) exit u

  abbrev checkpoint-place : ℕ → ℕ
  checkpoint-place = the_place_of (lines Field) checkpoint u

  exit-at : (f : Fault) → undeclared_in n ≡ some f → exit_line text f.row ≡ line_at (places_in text) (exit-place f.row)
  exit-at f e = rndf-line-there exit f.row text u is_read (exit-there f e).0

  checkpoint-at : (f : Fault) → repeated_in n ≡ some f → checkpoint_line_of text f.row ≡ line_at (places_in text) (checkpoint-place f.row)
  checkpoint-at f e = rndf-line-there checkpoint f.row text u is_read (checkpoint-there f e).0

  exit_in : (f : Fault) → undeclared_in n ≡ some f → exit-place f.row < length (places_in text)
  exit_in f e = let l = place_in (lines Field) exit u f.row (exit-there f e).0 in let m = as_many rndf-clear text u (rndf-said n text h) in omega arith

  checkpoint_in : (f : Fault) → repeated_in n ≡ some f → checkpoint-place f.row < length (places_in text)
  checkpoint_in f e = let l = place_in (lines Field) checkpoint u f.row (checkpoint-there f e).0 in let m = as_many rndf-clear text u (rndf-said n text h) in omega arith

  -- ## The first statement at fault
  by_rows : first_reference t u ≡ earlier (placed (lines Field) exit u (undeclared_in n)) (placed (lines Field) checkpoint u (repeated_in n))
  by_rows = subst (λ (t : Tables Field PointId). first_reference t u ≡ earlier (placed (lines Field) exit u (first_undeclared t)) (placed (lines Field) checkpoint u (the_first_repeat_of (numbers_of t)))) filled (reference-rows n.name u)

  at_place : (x : Fault) → first_reference t u ≡ some x → First (line_at (places_in text) x.row) x.number
  at_place x e = Ties.first-line-right rndf-clear (ReferenceFault n) text u (rndf-said n text h) x.row x.number (first-right (reference_decides n) [] u x e)

  at_exit : (f : Fault) → undeclared_in n ≡ some f → first_reference t u ≡ some (fault (exit-place f.row) f.number) → First (exit_line text f.row) 12
  at_exit f e q = rw (exit-at f e) (subst (First (line_at (places_in text) (exit-place f.row))) (exit-there f e).1 (at_place (fault (exit-place f.row) f.number) q))

  at-checkpoint : (f : Fault) → repeated_in n ≡ some f → first_reference t u ≡ some (fault (checkpoint-place f.row) f.number) → First (checkpoint_line_of text f.row) 13
  at-checkpoint f e q = rw (checkpoint-at f e) (subst (First (line_at (places_in text) (checkpoint-place f.row))) (checkpoint-there f e).1 (at_place (fault (checkpoint-place f.row) f.number) q))

  -- ## None
  pub no-row-sound : undeclared_in n ≡ none → repeated_in n ≡ none → Sound n
  no-row-sound = sound-by n

  pub sound-no-line : Sound n → NoRndfFault n text
  sound-no-line s = Ties.none-at-fault rndf-clear (ReferenceFault n) text u (rndf-said n text h)
      (none_right (reference_decides n) [] u (ap (λ (t : Tables Field PointId). first_reference t u) (sym filled) ∙ sound-no-fault n.name n u h.net s))

  pub no-line-sound : NoRndfFault n text → Sound n
  no-line-sound s = no-reference-fault n.name n u h.net (ap (λ (t : Tables Field PointId). first_reference t u) filled
      ∙ none_only (reference_decides n) [] u (Ties.none_only rndf-clear (ReferenceFault n) text u (rndf-said n text h) s))

  pub no-row-no-line : undeclared_in n ≡ none → repeated_in n ≡ none → NoRndfFault n text
  no-row-no-line e c = sound-no-line (no-row-sound e c)

  -- a line at fault: the references are not right
  pub line-not-sound : (i k : ℕ) → First i k → Sound n → ⊥
  line-not-sound i k f s = Ties.not-both rndf-clear (ReferenceFault n) text i k f (sound-no-line s)

  -- ## One
  pub only-undeclared : (f : Fault) → undeclared_in n ≡ some f → repeated_in n ≡ none → First (exit_line text f.row) 12
  only-undeclared f e c = at_exit f e (by_rows ∙ rw (e, c))

  pub only-repeated : (f : Fault) → undeclared_in n ≡ none → repeated_in n ≡ some f → First (checkpoint_line_of text f.row) 13
  only-repeated f e c = at-checkpoint f c (by_rows ∙ rw (e, c))

  -- ## Both
  pub lines-differ : (f g : Fault) → undeclared_in n ≡ some f → repeated_in n ≡ some g → exit_line text f.row ≡ checkpoint_line_of text g.row → ⊥
  lines-differ f g e c q =
      let p = same_place text (exit-place f.row) (checkpoint-place g.row) (exit_in f e) (checkpoint_in g c) (sym (exit-at f e) ∙ q ∙ checkpoint-at g c) in
      let k = places-differ (lines Field) exit checkpoint u f.row g.row (exit-there f e).0 (checkpoint-there g c).0 p in
      let z : ◌≡◌ {A = ℕ} 16 14 = ap kind_row k in
      omega arith

  pub undeclared-first : (f g : Fault) → undeclared_in n ≡ some f → repeated_in n ≡ some g → exit_line text f.row < checkpoint_line_of text g.row → First (exit_line text f.row) 12
  undeclared-first f g e c l =
      let a = exit-at f e in
      let b = checkpoint-at g c in
      let p = earlier-place text (exit-place f.row) (checkpoint-place g.row) (exit_in f e) (omega arith) in
      at_exit f e (by_rows ∙ rw (e, c, le-leb (exit-place f.row) (checkpoint-place g.row) (omega arith)))

  pub repeated-first : (f g : Fault) → undeclared_in n ≡ some f → repeated_in n ≡ some g → checkpoint_line_of text g.row < exit_line text f.row → First (checkpoint_line_of text g.row) 13
  repeated-first f g e c l =
      let a = exit-at f e in
      let b = checkpoint-at g c in
      let p = earlier-place text (checkpoint-place g.row) (exit-place f.row) (checkpoint_in g c) (omega arith) in
      at-checkpoint g c (by_rows ∙ rw (e, c, lt-leb (exit-place f.row) (checkpoint-place g.row) p))
