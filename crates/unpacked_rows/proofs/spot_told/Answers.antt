-- `unpacked_rows::spot_told` meets its contract. Assumes nothing.
use Rattle.unpacked_rows.specs.Told.{spot_told_of}
use Rattle.unpacked_rows.proofs.spot_told.Goals as goal

pub returns : goal.returns
unfolding spot_told_of
returns c = rw (c.word_at.ensures, c.word_at-width.ensures)
