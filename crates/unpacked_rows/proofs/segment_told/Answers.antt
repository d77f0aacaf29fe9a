-- `unpacked_rows::segment_told` meets its contract. Assumes nothing.
use Rattle.unpacked_rows.specs.Told.{segment_told_of}
use Rattle.unpacked_rows.proofs.segment_told.Goals as goal

pub returns : goal.returns
unfolding segment_told_of
returns c = rw (c.name_of_size.ensures, c.place_of.ensures, c.word_at.ensures, c.word_at-sizes.ensures)
