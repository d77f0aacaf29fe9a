-- `mission_column::mdf_column` meets its contract. Assumes nothing.
use mathlib.Core.Path.{sym, ◌∙◌}
use native.Mathlib.Omega.{arith}
use borrow.Author.Rules.{rules}
use Rattle.scan.specs.Reach.{stops_by}
use Rattle.scan.specs.declared.Until.TheVariants.{Byte}
use Rattle.scan.proofs.Reach.{reach_le}
use Rattle.refusal.proofs.Sized.{too_long}
use Rattle.columns.specs.MdfColumns.{mdf_column_in}
use Rattle.mission_column.proofs.Lines.{not_there, no_line, line_there, small}
use Rattle.mission_column.proofs.mdf_column.Goals as goal

pub returns-then-text-gt-LONGEST_TEXT : goal.returns-then-text-gt-LONGEST_TEXT
unfolding mdf_column_in
returns-then-text-gt-LONGEST_TEXT c = sym (too_long c.args.text.now _ _ c.if-text-gt-LONGEST_TEXT.true)

pub returns-in_default : goal.returns-in_default
returns-in_default c =
    let A = c.args in
    not_there A.text.now A.wanted A.number c.if-text-gt-LONGEST_TEXT.false (sym c.in_default.is ∙ c.arrive.ensures)

pub returns-then-text-from : goal.returns-then-text-from
returns-then-text-from c =
    let A = c.args in
    no_line A.text.now A.wanted A.number c.if-text-gt-LONGEST_TEXT.false c.in-Some.place c.in-Some.from (sym c.in-Some.is ∙ c.arrive.ensures) c.if-text-from.true

pub slice_bounds-line_column-end : goal.slice_bounds-line_column-end
slice_bounds-line_column-end c =
    let s = c.args.text.now in
    omega (arith, c.far_byte_from-e.ensures, reach_le (stops_by (Byte 10)) s c.in-Some.from (omega (arith, c.if-text-from.false)))

pub overflow_cast-result : goal.overflow_cast-result
overflow_cast-result c =
    let A = c.args in
    let t = c.mdf_table-table in
    search (rules, c.line_column.ensures, small t.result A.text.now c.in-Some.from c.far_byte_from-e.result (omega (arith, c.if-text-from.false)) c.far_byte_from-e.ensures c.in-Some.place A.number c.if-text-gt-LONGEST_TEXT.false)

pub returns : goal.returns
returns c =
    let A = c.args in
    let t = c.mdf_table-table in
    c.line_column.ensures ∙ line_there A.text.now A.wanted A.number c.if-text-gt-LONGEST_TEXT.false c.in-Some.place c.in-Some.from (sym c.in-Some.is ∙ c.arrive.ensures) c.far_byte_from-e.result (omega (arith, c.if-text-from.false)) c.far_byte_from-e.ensures t.result t.ensures
