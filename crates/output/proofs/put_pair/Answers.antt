-- `output::put_pair` meets its contract. Assumes nothing.
use Rattle.terms.specs.Ascii.{ascii}
use Rattle.number.specs.House.{house_integer, house_pair}
use Rattle.output.proofs.Writing.{◌then◌}
use Rattle.output.proofs.put_pair.Goals as goal

pub returns : goal.returns
unfolding ascii house_integer house_pair
returns c = c.put_integer-a.ensures then c.put_byte-b.ensures then c.put_integer.ensures
