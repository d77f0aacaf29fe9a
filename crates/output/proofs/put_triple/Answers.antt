-- `output::put_triple` meets its contract. Assumes nothing.
use Rattle.terms.specs.Ascii.{ascii}
use Rattle.number.specs.House.{house_integer, house_pair, house_triple}
use Rattle.output.proofs.Writing.{◌then◌}
use Rattle.output.proofs.put_triple.Goals as goal

pub returns : goal.returns
unfolding ascii house_integer house_pair house_triple
returns c = c.put_pair-a.ensures then c.put_byte-b.ensures then c.put_integer.ensures
