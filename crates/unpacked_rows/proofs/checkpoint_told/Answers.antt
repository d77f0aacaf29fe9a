-- `unpacked_rows::checkpoint_told` meets its contract. Assumes nothing.
use Rattle.unpacked_rows.specs.Told.{checkpoint_told_of}
use Rattle.unpacked_rows.proofs.checkpoint_told.Goals as goal

pub returns : goal.returns
unfolding checkpoint_told_of
returns c = rw (c.word_at.ensures, c.word_at-number.ensures)
