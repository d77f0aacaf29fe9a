-- `features::put_perimeter_shape` meets its contract. Assumes nothing.
use borrow.Author.Tests.{lt-ltb, le-ltb}
use Rattle.terms.specs.Ascii.{ascii}
use Rattle.output.proofs.Writing.{◌then◌}
use Rattle.features.specs.Drawn.{perimeter_shape}
use Rattle.features.proofs.put_perimeter_shape.Goals as goal

pub returns-then-count-lt3 : goal.returns-then-count-lt3
unfolding perimeter_shape
returns-then-count-lt3 c = rw (lt-ltb _ _ c.if-count-lt3.true) c.put_lane_shape.ensures

pub returns : goal.returns
unfolding ascii perimeter_shape
returns c = rw (le-ltb _ _ c.if-count-lt3.false) (c.put_bytes-a.ensures then c.put_ring-b.ensures then c.put_bytes.ensures)
