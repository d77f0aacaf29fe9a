-- `features::put_perimeter` meets its contract. Assumes nothing.
use Rattle.terms.specs.Ascii.{ascii}
use Rattle.output.proofs.Writing.{◌then◌}
use Rattle.features.specs.Drawn.{perimeter}
use Rattle.features.proofs.put_perimeter.Goals as goal

pub returns : goal.returns
unfolding ascii perimeter
returns c = c.put_bytes-a.ensures then c.put_perimeter_shape-b.ensures then c.put_bytes-c.ensures then c.put_pair-d.ensures then c.put_named.ensures
