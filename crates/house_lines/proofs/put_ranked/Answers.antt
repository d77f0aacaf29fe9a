-- `house_lines::put_ranked` meets its contract. Assumes nothing.
use borrow.Author.Tests.{eq-eqb, ne_eqb}
use Rattle.output.proofs.Writing.{none}
use Rattle.house_lines.proofs.put_ranked.Goals as goal

pub put_fields-requires : goal.put_fields-requires
put_fields-requires c = c.requires

pub returns-then-s-rank : goal.returns-then-s-rank
returns-then-s-rank c = rw (eq-eqb _ _ c.if-s-rank.true) c.put_fields.ensures

pub returns : goal.returns
returns c = rw (ne_eqb _ _ c.if-s-rank.false) none
