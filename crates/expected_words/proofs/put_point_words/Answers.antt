-- `expected_words::put_point_words` meets its contract: one point, or the first and the last. Assumes nothing.
use Rattle.terms.specs.Ascii.{ascii}
use Rattle.output.proofs.Writing.{same, ◌then◌}
use Rattle.expected_words.proofs.Cases.{one-point, more-points}
use Rattle.expected_words.proofs.put_point_words.Goals as goal

pub returns-then-low-high : goal.returns-then-low-high
returns-then-low-high c = same (one-point _ _ _ _ c.if-low-high.true) c.put_triple-a.ensures

pub returns : goal.returns
unfolding ascii
returns c = same (more-points _ _ _ _ c.if-low-high.false) (c.put_triple-a.ensures then (c.put_bytes-b.ensures then c.put_triple.ensures))
