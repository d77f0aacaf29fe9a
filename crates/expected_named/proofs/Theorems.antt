-- THE THEOREMS: of texts that spell a network, in each edition, what is listed for 12, 14 and 15 is what the law says. Assumes nothing.
use mathlib.Core.Path.{◌≡◌, refl, sym, ap, subst, ◌∙◌}
use mathlib.Core.List.{List, [], ◌∷◌}
use Prim.Native.Nat.{ℕ, suc, ◌≤◌}
use native.Mathlib.Omega.{arith}
use lib.ListN.{length}
use lib.Dec.{eqb}
use borrow.Author.Tests.{ne_eqb}
use Rattle.terms.specs.Ascii.{Bytes, ascii}
use Rattle.terms.specs.Words.{pick}
use Rattle.line.specs.Line.{Field}
use Rattle.line.specs.Lines.{lines_of}
use Rattle.line.proofs.Cuts.{cut-is}
use Rattle.refusal.proofs.Sized.{not_too-long}
use Rattle.law.specs.Network.{Network, Exit, Line, word, name, reading, SayLines, blank, statement, SpellsNetwork, SpellsText, exit_line}
use Rattle.law.specs.Network as Law
use Rattle.law.specs.Faults.{SaysAt, all_numbers}
use Rattle.edition.specs.declared.Edition.{Edition}
use Rattle.edition.specs.Editions.{inner, rules_of}
use Rattle.expected_law.specs.Expected.{ListsEntries}
use Rattle.find_line.specs.FoundLines.{rndf_line_kind_of}
use Rattle.expected_references.specs.Named.{no_id, parts_from, low_in_of, entries_in, field_on_of, name_on, name_in_of, checkpoint_numbers, goals_in}
use Rattle.expected_named.proofs.LineFields.{blank-kind, word-kind, second-name}
use Rattle.expected_named.proofs.KeywordKinds.{kind-rndf-name}
use Rattle.expected_named.proofs.Numbers.{numbers-are}
use Rattle.expected_named.proofs.Parts.{the_parts_of, parts_are}
use Rattle.expected_named.proofs.Entries.{lists-entries}
use Rattle.expected_named.proofs.ExitLines.{low-is}

not-zero : (y : ℕ) → ◌≡◌ {A = ℕ} (pick (eqb (suc y) 0) 1 0) 0
not-zero y = rw (ne_eqb (suc y) 0 (λ (e : suc y ≡ 0). omega arith)) refl

-- ## The name, on the first line that is not blank
module _ (d : Law.Edition) where
  name-passed : (l : Bytes) (lines : List Bytes) → rndf_line_kind_of l ≡ 30 → name_on (l ∷ lines) ≡ name_on lines
  unfolding name_on
  name-passed l lines e = rw e refl

  name-met : (l : Bytes) (lines : List Bytes) → rndf_line_kind_of l ≡ 0 → name_on (l ∷ lines) ≡ field_on_of 1 l
  unfolding name_on
  name-met l lines e = rw e refl

  first-name : {start : ℕ} {lines : List Bytes} (v : Field) (rest : List Line) → SayLines (reading d) start lines ((word (ascii "RNDF_name") ∷ name v ∷ []) ∷ rest) → name_on lines ≡ v.bytes
  first-name v rest (blank {line = l} {lines = ls} s t) = name-passed l ls (blank-kind d s) ∙ first-name v rest t
  first-name v rest (statement {line = l} {lines = ls} s t) = name-met l ls (word-kind d (ascii "RNDF_name") (name v ∷ []) s ∙ kind-rndf-name) ∙ second-name d (word (ascii "RNDF_name")) v [] s

module _ (e : Edition) (rndf : Bytes) (n : Network Field) (s : SpellsText (rules_of e) SpellsNetwork n rndf) where
  entries_from : (low line : ℕ) → low_in_of rndf line ≡ low → length rndf ≤ 16777215 → entries_in rndf line ≡ the_parts_of (inner e) low n
  unfolding entries_in
  entries_from low line q size = not_too-long rndf [] (parts_from (low_in_of rndf line) no_id (lines_of rndf)) size ∙ ap (λ (k : ℕ). parts_from k no_id (lines_of rndf)) q ∙ parts_are (inner e) low n rndf s

  -- 12: of a lane's exit all parts with points that may be entered; of a perimeter's the lanes
  pub lane-entries : length rndf ≤ 16777215 → (line : ℕ) (front : List Line) (l : Line) → SaysAt (rules_of e) SpellsNetwork rndf line front l → (x y : ℕ) (exit : Exit) → l ≡ exit_line x (suc y) exit → ListsEntries n 0 (entries_in rndf line)
  lane-entries size line front l h x y exit q = subst (ListsEntries n 0) (sym (entries_from 0 line (low-is (inner e) h x (suc y) exit q ∙ not-zero y) size)) (lists-entries (inner e) 0 (omega arith) n s.said s.net)

  pub border-entries : length rndf ≤ 16777215 → (line : ℕ) (front : List Line) (l : Line) → SaysAt (rules_of e) SpellsNetwork rndf line front l → (x : ℕ) (exit : Exit) → l ≡ exit_line x 0 exit → ListsEntries n 1 (entries_in rndf line)
  border-entries size line front l h x exit q = subst (ListsEntries n 1) (sym (entries_from 1 line (low-is (inner e) h x 0 exit q) size)) (lists-entries (inner e) 1 (omega arith) n s.said s.net)

  -- 14
  pub name-there : name_in_of rndf ≡ n.name.bytes
  unfolding name_in_of
  name-there = ap name_on (cut-is s.cut) ∙ first-name (inner e) n.name _ (subst (SayLines (rules_of e) 0 s.lines) s.net.spelled s.each)

  -- 15
  pub numbers-there : length rndf ≤ 16777215 → goals_in rndf ≡ all_numbers n
  unfolding goals_in
  numbers-there size = not_too-long rndf [] (checkpoint_numbers (lines_of rndf)) size ∙ numbers-are (inner e) n rndf s
