-- `expected_words::put_owed` meets its contract: nothing, one or more. Assumes nothing.
use Rattle.terms.specs.Ascii.{ascii}
use Rattle.output.proofs.Writing.{none, same, ◌then◌}
use Rattle.expected_words.proofs.Cases.{none-owed, one-owed, more-owed}
use Rattle.expected_words.proofs.put_owed.Goals as goal

pub returns-then-owed-eq0 : goal.returns-then-owed-eq0
returns-then-owed-eq0 c = same (none-owed _ c.if-owed-eq0.true) none

pub returns-then-owed-eq1 : goal.returns-then-owed-eq1
unfolding ascii
returns-then-owed-eq1 c = same (one-owed _ c.if-owed-eq1.true) c.put_bytes.ensures

pub returns : goal.returns
unfolding ascii
returns c = same (more-owed _ c.if-owed-eq0.false c.if-owed-eq1.false) (c.put_bytes-a.ensures then (c.put_integer-b.ensures then c.put_bytes-2.ensures))
