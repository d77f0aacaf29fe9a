-- `unpacked_rows::stop_told` meets its contract. Assumes nothing.
use Rattle.unpacked_rows.specs.Told.{stop_told_of}
use Rattle.unpacked_rows.proofs.stop_told.Goals as goal

pub returns : goal.returns
unfolding stop_told_of
returns c = rw c.word_at.ensures
