-- `unpacked_rows::lane_told` meets its contract. Assumes nothing.
use Rattle.unpacked_rows.specs.Told.{lane_told_of}
use Rattle.unpacked_rows.proofs.lane_told.Goals as goal

pub returns : goal.returns
unfolding lane_told_of
returns c = rw (c.word_at.ensures, c.word_at-sides.ensures, c.word_at-sizes.ensures)
