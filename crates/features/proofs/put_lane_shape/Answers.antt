-- `features::put_lane_shape` meets its contract. Assumes nothing.
use borrow.Author.Tests.{eq-eqb, ne_eqb}
use Rattle.terms.specs.Ascii.{ascii}
use Rattle.output.proofs.Writing.{◌then◌}
use Rattle.features.specs.Drawn.{lane_shape}
use Rattle.features.proofs.put_lane_shape.Goals as goal

pub returns-then-count-eq1 : goal.returns-then-count-eq1
unfolding ascii lane_shape
returns-then-count-eq1 c = rw (eq-eqb _ _ c.if-count-eq1.true) (c.put_bytes-a.ensures then c.put_position-b.ensures then c.put_byte.ensures)

pub returns : goal.returns
unfolding ascii lane_shape
returns c = rw (ne_eqb _ _ c.if-count-eq1.false) (c.put_bytes-c.ensures then c.put_positions-d.ensures then c.put_bytes.ensures)
