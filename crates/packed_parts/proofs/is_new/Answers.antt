-- `packed_parts::is_new` meets its contract. Assumes nothing.
use borrow.Author.Rules.{rules}
use native.Mathlib.Omega.{arith}
use mathlib.Core.Path.{sym, ap, ◌∙◌}
use mathlib.Core.Bool.{not}
use Prim.Native.Nat.{ℕ, ◌/◌}
use Rattle.marks.specs.Marks.{is_marked_of}
use Rattle.packed_rows.proofs.FixedLaws.{here-inside}
use Rattle.packed_parts.proofs.NumberLaws.{no_record, too-low, too-high, in-range}
use Rattle.packed_parts.proofs.is_new.Goals as goal

pub overflow_add-at : goal.overflow_add-at
overflow_add-at c = search (rules, here-inside c.args.bytes.now c.args.at 6 (sym c.is_record.ensures ∙ c.if-is_record.true))

pub returns-then-number : goal.returns-then-number
returns-then-number c = ap not c.is_marked.ensures ∙ in-range c.args.bytes.now c.args.at (is_marked_of c.args.marks.now) (sym c.is_record.ensures ∙ c.if-is_record.true) (c.four_at-number.result / 65536) (ap (λ (x : ℕ). x / 65536) c.four_at-number.ensures) (omega arith) (omega arith)

pub returns-else-number : goal.returns-else-number
returns-else-number c = too-high c.args.bytes.now c.args.at (is_marked_of c.args.marks.now) (sym c.is_record.ensures ∙ c.if-is_record.true) (c.four_at-number.result / 65536) (ap (λ (x : ℕ). x / 65536) c.four_at-number.ensures) (omega arith)

pub returns-else-number-ge1 : goal.returns-else-number-ge1
returns-else-number-ge1 c = too-low c.args.bytes.now c.args.at (is_marked_of c.args.marks.now) (sym c.is_record.ensures ∙ c.if-is_record.true) (c.four_at-number.result / 65536) (ap (λ (x : ℕ). x / 65536) c.four_at-number.ensures) (omega arith)

pub returns-else-is_record : goal.returns-else-is_record
returns-else-is_record c = no_record c.args.bytes.now c.args.at (is_marked_of c.args.marks.now) (sym c.is_record.ensures ∙ c.if-is_record.false)
