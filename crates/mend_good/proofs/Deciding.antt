-- THE THEOREM: walks with few tables, the test of repeated numbers and that of each exit's line tell whether a reader with room enough accepts a text. Assumes nothing.
use Rattle.std.specs.Prelude.{Some, None}
use mathlib.Core.Path.{◌≡◌, refl, sym, ap, subst, ◌∙◌}
use mathlib.Core.List.{List, []}
use mathlib.Core.Bool.{true, false}
use Rattle.std.specs.Prelude as Rust
use mathlib.Core.Option.{Option, none, some}
use Prim.Native.Nat.{ℕ, ◌+◌, ◌*◌, ◌≤◌, ◌<◌}
use native.Mathlib.Omega.{arith}
use lib.ListN.{length}
use Rattle.terms.specs.Words.{Bytes}
use Rattle.terms.proofs.Tests.{clash}
use Rattle.line.specs.Content.{Field}
use Rattle.line.specs.Lines.{lines_of}
use Rattle.law.specs.Network.{reading}
use Rattle.law_spelling.proofs.Texts.{rndf-to_in, rndf-back_in}
use Rattle.grammar.specs.Editions.{Edition, law_of}
use Rattle.grammar.specs.Network.{Network}
use Rattle.grammar.specs.Tables.{the_segment_row_of, tables, tables_with, tables_unresolved}
use Rattle.text.specs.Spelling.{SpellsRndfIn}
use Rattle.editions.proofs.Later.{later}
use Rattle.fill.specs.Counts.{sizes}
use Rattle.fill.specs.FirstFaults.{Fault}
use Rattle.fill.specs.Resolve.{look}
use Rattle.fill.proofs.ReferenceLaws.{sound-by, sound-only}
use Rattle.fill.proofs.RowLaws.{one_each}
use Rattle.fault_lines.proofs.RndfFaults.{undeclared_in, repeated_in}
use Rattle.place.specs.declared.Place.{Place}
use Rattle.place.specs.Step.{over_of}
use Rattle.progress.specs.After.{no_progress}
use Rattle.marks.specs.Tests.{first_repeat_of, row_of}
use Rattle.references.specs.Finding.{look_in}
use Rattle.refusal.specs.Size.{most}
use Rattle.network.specs.Storing.{Memory}
use Rattle.network.specs.Reaching.{WalkEnd, stopped, reached}
use Rattle.network.proofs.Holding.{CountsNetwork}
use Rattle.network.proofs.Spelled.{found-network}
use Rattle.mend_law.specs.Mends.{AcceptedWithRoom}
use Rattle.mend_law.proofs.Room.{room-enough}
use Rattle.mend_tests.specs.Tests.{few, text_walk, nought, all_right_of}
use Rattle.mend_good.proofs.Left.{end-told, over-told, never-faulty_in, ended, looked, repeated}
use Rattle.mend_good.proofs.Entries.{right-declared, declared-right}
use Rattle.mend_good.proofs.Room as Rows

-- no row, no number that repeats
no_row : (o : Option Fault) → row_of o ≡ None → o ≡ none
no_row none e = refl
no_row (some f) e = absurd (let z : ◌≡◌ {A = ℕ} 0 1 = cc in omega arith)

-- a row for each segment
as-many-segments : (n : Network Field) → (sizes (tables n)).segments ≡ length n.segments
unfolding tables_with
as-many-segments n = one_each (λ s. length s.lanes) the_segment_row_of 0 n.segments

-- what was left, where the end was reached
abbrev memory-at : Memory → WalkEnd → Memory
memory-at other (stopped i k) = other
memory-at other (reached p m i) = m

-- ## A walk over a text that spells a network
module _ (ε : Edition) (text : Bytes) (size : length text ≤ most) (n : Network Field) (s : SpellsRndfIn ε n text)
    (a b c d : ℕ) (p : Place) (m : Memory) (i : ℕ) (e : text_walk ε text (nought a) (nought b) (nought c) (nought d) ≡ reached p m i) where
  left_so : (ended ε n text size s a b c d).memory ≡ m
  left_so = ap (memory-at m) (sym (ended ε n text size s a b c d).is ∙ e)

  counts-so : CountsNetwork n m.so_far
  counts-so = subst (λ (x : Memory). CountsNetwork n x.so_far) left_so (ended ε n text size s a b c d).counts

module _ (ε : Edition) (text : Bytes) where
  abbrev Good : Type 0
  Good = AcceptedWithRoom (reading (law_of ε)) text

  -- what is accepted is spelled
  spelled : (g : Good) → SpellsRndfIn ε g.1 text
  spelled g = rndf-back_in ε g.1 text g.2.spelled

  -- 1
  pub long-past : most < length text → Good → ⊥
  long-past h g = omega (arith, g.2.size)

  -- 2 to 9 and 25; the walk may be lent any tables
  pub fault_past : (sg ln zn ck : List ℕ) (i k : ℕ) → text_walk ε text sg ln zn ck ≡ stopped i k → Good → ⊥
  fault_past sg ln zn ck i k e g = let lent = few no_progress sg ln zn ck in never-faulty_in ε g.1 text (spelled g) lent i k (end-told ε text lent (stopped i k) e)

  -- 10
  pub short-past : (sg ln zn ck : List ℕ) (p : Place) (m : Memory) (i : ℕ) → text_walk ε text sg ln zn ck ≡ reached p m i → over_of p ≡ false → Good → ⊥
  short-past sg ln zn ck p m i e o g = let lent = few no_progress sg ln zn ck in never-faulty_in ε g.1 text (spelled g) lent i 10 (over-told ε text lent p m i false e o)

  -- ## A text without a fault of form, walked with a table of checkpoints
  module _ (size : length text ≤ most) (d : ℕ) (p : Place) (m : Memory) (i : ℕ) (e : text_walk ε text [] [] [] (nought d) ≡ reached p m i) (o : over_of p ≡ true) where
    -- it spells a network
    found : (n : Network Field) × SpellsRndfIn ε n text
    found = let lent = few no_progress [] [] [] (nought d) in found-network ε text lent m (over-told ε text lent p m i true e o)

    -- the rows of the other tables fit into as many lines
    pub rows_fit : m.so_far.segments * 4 + m.so_far.lanes * 5 + m.so_far.zones * 6 ≤ length (lines_of text) * 2
    rows_fit =
        let k = counts-so ε text size found.0 found.1 0 0 0 d p m i e in
        let fit = Rows.parts-fit found.0 text (later ε found.0 text found.1) in
        omega (arith, k.segments, k.lanes, k.zones)

    pub checkpoints-fit : m.so_far.checkpoints ≤ length (lines_of text)
    checkpoints-fit =
        let k = counts-so ε text size found.0 found.1 0 0 0 d p m i e in
        let fit = Rows.checkpoints-fit found.0 text (later ε found.0 text found.1) in
        omega (arith, k.checkpoints)

    -- the number that repeats is that of the network, whichever the text spells
    repeat-is : (n : Network Field) (s : SpellsRndfIn ε n text) → m.so_far.checkpoints * 2 ≤ d → first_repeat_of m.checkpoints m.so_far.checkpoints ≡ row_of (repeated_in n)
    repeat-is n s h =
        let k = counts-so ε text size n s 0 0 0 d p m i e in
        subst (λ (x : Memory). first_repeat_of x.checkpoints x.so_far.checkpoints ≡ row_of (repeated_in n)) (left_so ε text size n s 0 0 0 d p m i e) (repeated ε n text size s d (subst (λ (x : ℕ). x * 2 ≤ d) k.checkpoints h))

    -- 13
    pub repeat_past : m.so_far.checkpoints * 2 ≤ d → (row : ℕ) → first_repeat_of m.checkpoints m.so_far.checkpoints ≡ Some row → Good → ⊥
    repeat_past h row r g =
        let q : ◌≡◌ {A = Rust.Option ℕ} (Some row) None = sym r ∙ repeat-is g.1 (spelled g) h ∙ ap row_of (sound-only g.1 g.2.right).1 in
        let z : ◌≡◌ {A = ℕ} 0 1 = cc in
        omega arith

    -- 12
    module _ (a b c : ℕ) (sp lp zp : Place) (sm lm zm : Memory) (j k l : ℕ) (es : text_walk ε text (nought a) [] [] [] ≡ reached sp sm j) (el : text_walk ε text [] (nought b) [] [] ≡ reached lp lm k) (ez : text_walk ε text [] [] (nought c) [] ≡ reached zp zm l)
        (fs : m.so_far.segments * 4 ≤ a) (fl : m.so_far.lanes * 5 ≤ b) (fz : m.so_far.zones * 6 ≤ c) where
      -- what is tested is the network's, whichever the text spells
      entries-are : (n : Network Field) (s : SpellsRndfIn ε n text)
          → all_right_of (look_in sm.segments lm.lanes zm.zones) m.so_far.segments (lines_of text) ≡ all_right_of (look (tables_unresolved n)) (length n.segments) (lines_of text)
      entries-are n s =
          let counted = counts-so ε text size n s 0 0 0 d p m i e in
          let sg = left_so ε text size n s a 0 0 0 sp sm j es in
          let ln = left_so ε text size n s 0 b 0 0 lp lm k el in
          let zn = left_so ε text size n s 0 0 c 0 zp zm l ez in
          let rows = looked ε n text size s a b c (subst (λ (x : ℕ). x * 4 ≤ a) counted.segments fs) (subst (λ (x : ℕ). x * 5 ≤ b) counted.lanes fl) (subst (λ (x : ℕ). x * 6 ≤ c) counted.zones fz) in
          let read : look_in sm.segments lm.lanes zm.zones ≡ look (tables_unresolved n) = (λ x. look_in (sym sg x).segments (sym ln x).lanes (sym zn x).zones) ∙ rows in
          let parts : m.so_far.segments ≡ length n.segments = counted.segments ∙ as-many-segments n in
          λ x. all_right_of (read x) (parts x) (lines_of text)

      pub entry_past : all_right_of (look_in sm.segments lm.lanes zm.zones) m.so_far.segments (lines_of text) ≡ false → Good → ⊥
      entry_past r g = clash (sym (declared-right g.1 text (later ε g.1 text (spelled g)) (sound-only g.1 g.2.right).0) ∙ sym (entries-are g.1 (spelled g)) ∙ r)

      pub all-good : m.so_far.checkpoints * 2 ≤ d → first_repeat_of m.checkpoints m.so_far.checkpoints ≡ None → all_right_of (look_in sm.segments lm.lanes zm.zones) m.so_far.segments (lines_of text) ≡ true → Good
      all-good h r t =
          let n = found.0 in
          let s = found.1 in
          let declared : undeclared_in n ≡ none = right-declared n text (later ε n text s) (sym (entries-are n s) ∙ t) in
          let different : repeated_in n ≡ none = no_row (repeated_in n) (sym (repeat-is n s h) ∙ r) in
          room-enough ε text n size (rndf-to_in ε n text s) (sound-by n declared different)
