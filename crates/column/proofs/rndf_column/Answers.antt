-- `column::rndf_column` meets its contract. Assumes nothing.
use mathlib.Core.Path.{sym, ◌∙◌}
use lib.ListN.{take}
use borrow.Author.Rules.{rules}
use Rattle.refusal.proofs.Sized.{too_long}
use Rattle.columns.specs.RndfColumns.{rndf_column_in}
use Rattle.column.specs.Before.{place_behind_of}
use Rattle.column.proofs.Places.{column-there, no_line, small}
use Rattle.column.proofs.rndf_column.Goals as goal

pub returns-then-text-gt-LONGEST_TEXT : goal.returns-then-text-gt-LONGEST_TEXT
unfolding rndf_column_in
returns-then-text-gt-LONGEST_TEXT c = sym (too_long c.args.text.now _ _ c.if-text-gt-LONGEST_TEXT.true)

pub overflow_cast-result : goal.overflow_cast-result
overflow_cast-result c =
    let A = c.args in
    let from = c.start_of_line-from.result in
    search (rules, c.column_at.ensures, small A.text.now from c.if-from-text.true c.if-text-gt-LONGEST_TEXT.false A.number (place_behind_of (take from A.text.now)))

pub returns-then-from-text : goal.returns-then-from-text
returns-then-from-text c =
    let A = c.args in
    c.column_at.ensures ∙ column-there A.text.now A.wanted A.number c.start_of_line-from.result c.if-text-gt-LONGEST_TEXT.false c.start_of_line-from.ensures

pub returns-else-from-text : goal.returns-else-from-text
returns-else-from-text c =
    let A = c.args in
    no_line A.text.now A.wanted A.number c.start_of_line-from.result c.if-text-gt-LONGEST_TEXT.false c.start_of_line-from.ensures c.if-from-text.false
