-- `column_parts::bad_at` meets its contract. Assumes nothing.
use mathlib.Core.Path.{◌∙◌}
use borrow.Author.Tests.{lt-ltb, le-ltb}
use Rattle.columns.proofs.Bounds.{bad-scanned}
use Rattle.column_parts.proofs.bad_at.Goals as goal

pub returns-then-i-mark : goal.returns-then-i-mark
returns-then-i-mark c = rw (lt-ltb _ _ c.if-i-mark.true) at (bad-scanned c.args.s.now c.not_outside_from-i.result c.two_from-mark.result c.not_outside_from-i.ensures c.two_from-mark.ensures)

pub returns-else-i-mark : goal.returns-else-i-mark
returns-else-i-mark c =
    c.not_inside_from.ensures ∙ (rw (le-ltb _ _ c.if-i-mark.false) at (bad-scanned c.args.s.now c.not_outside_from-i.result c.two_from-mark.result c.not_outside_from-i.ensures c.two_from-mark.ensures))
