-- `unpacked_rows::behind_segment` meets its contract. Assumes nothing.
use Rattle.unpacked_rows.specs.Told.{behind_segment_of}
use Rattle.unpacked_rows.proofs.behind_segment.Goals as goal

pub returns : goal.returns
unfolding behind_segment_of
returns c = rw (c.behind.ensures, c.word_at-name.ensures)
