-- `output::put_coordinate` meets its contract. Assumes nothing.
use Rattle.terms.specs.Ascii.{ascii}
use Rattle.output.proofs.Writing.{same, ◌then◌}
use Rattle.output.proofs.Signs.{minus-bytes, plus-bytes}
use Rattle.output.proofs.put_coordinate.Goals as goal

pub returns-then-z-lt0 : goal.returns-then-z-lt0
unfolding ascii
returns-then-z-lt0 c =
    same (minus-bytes _ c.ranges.z _ c.unsigned_abs.ensures.value c.if-z-lt0.true) (c.put_byte-a.ensures then c.put_degrees.ensures)

pub returns : goal.returns
returns c = same (plus-bytes _ c.ranges.z _ c.unsigned_abs-2.ensures.value c.if-z-lt0.false) c.put_degrees-2.ensures
