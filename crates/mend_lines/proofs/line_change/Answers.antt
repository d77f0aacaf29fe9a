-- `mend_lines::line_change` meets its contract. Assumes nothing.
use Rattle.mend_lines.specs.Forward.{change_of}
use Rattle.mend_lines.proofs.Ahead.{goes-again, else-counts}
use Rattle.mend_lines.proofs.line_change.Goals as goal

pub returns-then-before : goal.returns-then-before
unfolding change_of
returns-then-before c = λ kind. rw c.if-before.true c.behind_end.ensures

pub returns-then-again : goal.returns-then-again
returns-then-again c =
    let A = c.args in
    λ kind. goes-again A.text.now A.line.now A.next A.before c.if-before.false A.kind c.again.result kind c.again.ensures c.if-again.true

pub returns : goal.returns
returns c =
    let A = c.args in
    λ kind. else-counts A.text.now A.line.now A.next A.before c.if-before.false A.kind c.again.result kind c.again.ensures c.if-again.false _ c.count_change.ensures
