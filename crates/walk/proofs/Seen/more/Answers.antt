-- `walk::Seen::more` meets its contract. Assumes nothing.
use mathlib.Core.Path.{refl}
use borrow.Author.Tests.{eq-eqb, ne_eqb}
use Rattle.walk.specs.Seeing.{seen_more, more_seen}
use Rattle.walk.proofs.Seen.more.Goals as goal

pub returns-then-self-eq-FULL : goal.returns-then-self-eq-FULL
unfolding more_seen
returns-then-self-eq-FULL c = rw (eq-eqb _ 4294967295 c.if-self-eq-FULL.true) refl

pub returns-then-self-row : goal.returns-then-self-row
unfolding seen_more more_seen
returns-then-self-row c = rw (ne_eqb _ 4294967295 c.if-self-eq-FULL.false, c.if-wanted.true, eq-eqb _ _ c.if-self-row.true) refl

pub returns-else-self-row : goal.returns-else-self-row
unfolding seen_more more_seen
returns-else-self-row c = rw (ne_eqb _ 4294967295 c.if-self-eq-FULL.false, c.if-wanted.true, ne_eqb _ _ c.if-self-row.false) refl

pub returns-else-wanted : goal.returns-else-wanted
unfolding seen_more more_seen
returns-else-wanted c = rw (ne_eqb _ 4294967295 c.if-self-eq-FULL.false, c.if-wanted.false) refl
