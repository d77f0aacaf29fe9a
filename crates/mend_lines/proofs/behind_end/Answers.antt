-- `mend_lines::behind_end` meets its contract. Assumes nothing.
use borrow.Author.Tests.{eq-eqb, ne_eqb}
use Rattle.mend_lines.specs.Forward.{behind_of}
use Rattle.mend_lines.proofs.behind_end.Goals as goal

pub returns-then-f-eq0 : goal.returns-then-f-eq0
unfolding behind_of
returns-then-f-eq0 c = rw (← c.fields_on-f.ensures, eq-eqb _ 0 c.if-f-eq0.true)

pub returns-else-f-eq0 : goal.returns-else-f-eq0
unfolding behind_of
returns-else-f-eq0 c = rw (← c.fields_on-f.ensures, ne_eqb _ 0 c.if-f-eq0.false)
