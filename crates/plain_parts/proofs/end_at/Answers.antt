-- `plain_parts::end_at` meets its contract. Assumes nothing.
use Rattle.plain_parts.proofs.Ended.{no_note, behind-blank}
use Rattle.plain_parts.proofs.end_at.Goals as goal

pub returns-then-s-at-eq47 : goal.returns-then-s-at-eq47
returns-then-s-at-eq47 c =
    let a = c.args in
    behind-blank a.s.now a.from c.comment_end.result (rw c.not_separator_from-at.ensures at c.comment_end.ensures)

pub returns-else-at-s : goal.returns-else-at-s
returns-else-at-s c =
    let a = c.args in
    behind-blank a.s.now a.from c.bare_end.result (no_note a.s.now _ c.bare_end.result (rw c.not_separator_from-at.ensures at c.bare_end.ensures))
