-- When an RNDF is taken, and which line and number it is refused with, in document 01's order. Assumes nothing.
use Rattle.std.specs.Prelude.{ℕ, ◌≤◌, ◌<◌, length}
use Rattle.terms.specs.Ascii.{Bytes}
use Rattle.line.specs.Content.{Field}
use Rattle.grammar.specs.Editions.{Edition, march}
use Rattle.grammar.specs.Network.{Network}
use Rattle.grammar.specs.Tables.{tables}
use Rattle.grammar.specs.References.{Sound}
use Rattle.text.specs.Spelling.{SpellsRndfIn}
use Rattle.form_faults.specs.FormFaults.{RndfBadLineIn, RndfUnendedIn}
use Rattle.fill.specs.Counts.{sizes}
use Rattle.fault_lines.specs.FaultLines.{FirstRndfFault}
use Rattle.table_words.specs.Words.{Lent, HasRoom}
pub use Rattle.refusal.specs.Size.{most}
pub use Rattle.law_tables.specs.Used.{rows_used_of}

-- ## In each edition
-- the text spells a network, within the size and the room, whose references are right
pub record AcceptsRndfIn (e : Edition) (text : Bytes) (lent : Lent) (n : Network Field) : Type 0 where
  pub size : length text ≤ most
  pub spelled : SpellsRndfIn e n text
  pub room : HasRoom (sizes (tables n)) lent
  pub sound : Sound n

-- 01: "Order: for the RNDF 1; then the first line with a fault of 2 to 9, ..; then 10; 11; then the first line with 12 or 13."
pub data RefusesRndfIn (e : Edition) (text : Bytes) (lent : Lent) : (line number : ℕ) → Type 0 where
  too_long : most < length text → RefusesRndfIn e text lent 0 1
  bad_line : {line number : ℕ} → length text ≤ most → RndfBadLineIn e text line number → RefusesRndfIn e text lent line number
  unended : {line : ℕ} → length text ≤ most → RndfUnendedIn e text line → RefusesRndfIn e text lent line 10
  -- 01: 11 "a table has fewer rows than needed"
  no_room : (n : Network Field) → length text ≤ most → SpellsRndfIn e n text → (HasRoom (sizes (tables n)) lent → ⊥) → RefusesRndfIn e text lent 0 11
  -- 01: 12 "entry is no declared lane waypoint or perimeter point", 13 "checkpoint number already declared". What an edition spells the present one spells, so the lines say the same in both
  bad_reference : (n : Network Field) {line number : ℕ} → length text ≤ most → SpellsRndfIn e n text → HasRoom (sizes (tables n)) lent → FirstRndfFault n text line number → RefusesRndfIn e text lent line number

-- in the present edition
abbrev pub AcceptsRndf : Bytes → Lent → Network Field → Type 0
AcceptsRndf = AcceptsRndfIn march

abbrev pub RefusesRndf : Bytes → Lent → (line number : ℕ) → Type 0
RefusesRndf = RefusesRndfIn march
