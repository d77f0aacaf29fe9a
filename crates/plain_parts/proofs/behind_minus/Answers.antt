-- `plain_parts::behind_minus` meets its contract. Assumes nothing.
use borrow.Author.Tests.{eq-eqb, ne_eqb}
use lib.ListN.{get_or-eq_default}
use Rattle.plain_parts.proofs.behind_minus.Goals as goal
use Rattle.plain_parts.proofs.behind_minus.Goals.{else-from-s-via-then-from-s+else-s-from-eq45, else-from-s-via-else-from-s}

pub returns-then-s-from-eq45 : goal.returns-then-s-from-eq45
returns-then-s-from-eq45 c = rw (eq-eqb _ 45 c.if-s-from-eq45.true)

pub returns-else-from-s : goal.returns-else-from-s
returns-else-from-s c =
    elim c.else-from-s.branch [ else-from-s-via-then-from-s+else-s-from-eq45 w ↦ rw (ne_eqb _ 45 w.if-s-from-eq45.false) | else-from-s-via-else-from-s w ↦ rw (get_or-eq_default c.args.s.now 0 w.if-from-s.false) ]
