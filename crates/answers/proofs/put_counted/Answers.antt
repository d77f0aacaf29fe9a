-- `answers::put_counted` meets its contract: a run of puts, with or without the last. Assumes nothing.
use Rattle.terms.specs.Ascii.{ascii}
use Rattle.output.proofs.Writing.{none, same, ◌then◌}
use Rattle.answers.proofs.Cases.{one, many}
use Rattle.answers.proofs.put_counted.Goals as goal

pub returns-then-n-eq1 : goal.returns-then-n-eq1
unfolding ascii
returns-then-n-eq1 c = same (one _ _ c.if-n-eq1.true) (c.put_integer-a.ensures then c.put_byte-b.ensures then c.put_bytes-c.ensures then none)

pub returns : goal.returns
unfolding ascii
returns c = same (many _ _ c.if-n-eq1.false) (c.put_integer-a.ensures then c.put_byte-b.ensures then c.put_bytes-c.ensures then c.put_byte.ensures)
