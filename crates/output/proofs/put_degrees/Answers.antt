-- `output::put_degrees` meets its contract. Assumes nothing.
use Rattle.terms.specs.Ascii.{ascii}
use Rattle.number.specs.House.{house_integer}
use Rattle.coordinate.specs.House.{house_degrees}
use Rattle.output.proofs.Writing.{◌then◌}
use Rattle.output.proofs.put_degrees.Goals as goal

pub returns : goal.returns
unfolding ascii house_integer house_degrees
returns c = c.put_integer-a.ensures then c.put_byte-b.ensures then c.put_padded.ensures
