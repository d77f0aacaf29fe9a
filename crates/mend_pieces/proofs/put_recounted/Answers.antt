-- `mend_pieces::put_recounted` meets its contract. Assumes nothing.
use mathlib.Core.Path.{ap}
use Rattle.number.specs.House.{house_integer}
use Rattle.output.proofs.Writing.{◌then◌, same}
use Rattle.mend_pieces.proofs.put_recounted.Goals as goal

pub returns : goal.returns
returns c = c.put_front-front.ensures then (same (ap house_integer c.in_word.ensures) c.put_integer-number.ensures then c.put_rest.ensures)
