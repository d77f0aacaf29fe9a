-- `expected_words::put_point_shape` meets its contract: the point that is due, or capitals. Assumes nothing.
use Rattle.terms.specs.Ascii.{ascii}
use Rattle.output.proofs.Writing.{same}
use Rattle.expected_words.proofs.Cases.{due-point-shape, point-shape}
use Rattle.expected_words.proofs.put_point_shape.Goals as goal

pub returns-then-low-high : goal.returns-then-low-high
returns-then-low-high c = same (due-point-shape _ _ _ _ c.if-low-high.true) c.put_triple.ensures

pub returns : goal.returns
unfolding ascii
returns c = same (point-shape _ _ _ _ c.if-low-high.false) c.put_bytes.ensures
