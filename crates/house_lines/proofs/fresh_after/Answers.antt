-- `house_lines::fresh_after` meets its contract. Assumes nothing.
use borrow.Author.Tests.{eq-eqb, ne_eqb}
use Rattle.house_lines.specs.Said.{fresh_after_of}
use Rattle.house_lines.proofs.fresh_after.Goals as goal

pub returns-then-rank-eq0 : goal.returns-then-rank-eq0
unfolding fresh_after_of
returns-then-rank-eq0 c = rw (eq-eqb _ 0 c.if-rank-eq0.true)

pub returns-then-rank-eq-BLANK : goal.returns-then-rank-eq-BLANK
unfolding fresh_after_of
returns-then-rank-eq-BLANK c = rw (ne_eqb _ 0 c.if-rank-eq0.false, eq-eqb _ 8 c.if-rank-eq-BLANK.true)

pub returns-else-rank-eq-BLANK : goal.returns-else-rank-eq-BLANK
unfolding fresh_after_of
returns-else-rank-eq-BLANK c = rw (ne_eqb _ 0 c.if-rank-eq0.false, ne_eqb _ 8 c.if-rank-eq-BLANK.false)
