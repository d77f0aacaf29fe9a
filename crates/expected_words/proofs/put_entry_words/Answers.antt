-- `expected_words::put_entry_words` meets its contract: a run of puts. Assumes nothing.
use Rattle.terms.specs.Ascii.{ascii}
use Rattle.output.proofs.Writing.{same, ◌then◌}
use Rattle.expected_words.proofs.Cases.{entry-told}
use Rattle.expected_words.proofs.put_entry_words.Goals as goal

pub returns : goal.returns
unfolding ascii
returns c = same (entry-told _) (c.put_bytes-a.ensures then (c.put_range-b.ensures then c.put_bytes.ensures))
