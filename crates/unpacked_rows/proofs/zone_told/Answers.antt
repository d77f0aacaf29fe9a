-- `unpacked_rows::zone_told` meets its contract. Assumes nothing.
use Rattle.unpacked_rows.specs.Told.{zone_told_of}
use Rattle.unpacked_rows.proofs.zone_told.Goals as goal

pub returns : goal.returns
unfolding zone_told_of
returns c = rw (c.name_of_size.ensures, c.place_of.ensures, c.word_at-3.ensures, c.word_at-2.ensures, c.word_at.ensures, c.word_at-sizes.ensures)
