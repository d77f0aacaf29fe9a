-- `expected_words::put_and_more` meets its contract: nothing, or how many. Assumes nothing.
use Rattle.terms.specs.Ascii.{ascii}
use Rattle.output.proofs.Writing.{none, same, ◌then◌}
use Rattle.expected_words.proofs.Cases.{none_more, some_more}
use Rattle.expected_words.proofs.put_and_more.Goals as goal

pub returns-then-more-eq0 : goal.returns-then-more-eq0
returns-then-more-eq0 c = same (none_more _ c.if-more-eq0.true) none

pub returns : goal.returns
unfolding ascii
returns c = same (some_more _ c.if-more-eq0.false) (c.put_bytes-a.ensures then (c.put_integer-b.ensures then c.put_bytes.ensures))
