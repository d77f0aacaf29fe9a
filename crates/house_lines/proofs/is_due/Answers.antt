-- `house_lines::is_due` meets its contract. Assumes nothing.
use borrow.Author.Tests.{eq-eqb, ne_eqb}
use Rattle.house_lines.specs.Said.{due}
use Rattle.house_lines.proofs.is_due.Goals.{then-rank-eq0-via-then-rank-eq0, then-rank-eq0-via-else-rank-eq0+then-rank-eq-BLANK}
use Rattle.house_lines.proofs.is_due.Goals as goal

pub returns-then-rank-eq0 : goal.returns-then-rank-eq0
unfolding due
returns-then-rank-eq0 c =
    elim c.then-rank-eq0.branch [
      | then-rank-eq0-via-then-rank-eq0 w ↦ rw (eq-eqb _ 0 w.if-rank-eq0.true)
      | then-rank-eq0-via-else-rank-eq0+then-rank-eq-BLANK w ↦ rw (ne_eqb _ 0 w.if-rank-eq0.false, eq-eqb _ 8 w.if-rank-eq-BLANK.true)
    ]

pub returns : goal.returns
unfolding due
returns c = rw (ne_eqb _ 0 c.if-rank-eq0.false, ne_eqb _ 8 c.if-rank-eq-BLANK.false)
