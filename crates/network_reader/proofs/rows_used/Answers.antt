use Rattle.network_reader.specs.Reading.{the_counts_of}
use mathlib.Core.Path.{refl}
use Rattle.network_reader.proofs.rows_used.Goals as goal

pub returns : goal.returns
unfolding the_counts_of
returns c = rw c.in_word.ensures refl
