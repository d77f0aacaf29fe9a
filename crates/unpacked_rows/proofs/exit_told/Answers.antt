-- `unpacked_rows::exit_told` meets its contract. Assumes nothing.
use Rattle.unpacked_rows.specs.Told.{exit_told_of}
use Rattle.unpacked_rows.proofs.exit_told.Goals as goal

pub returns : goal.returns
unfolding exit_told_of
returns c = rw (c.word_at-2.ensures, c.word_at.ensures)
