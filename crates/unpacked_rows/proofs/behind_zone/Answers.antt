-- `unpacked_rows::behind_zone` meets its contract. Assumes nothing.
use Rattle.unpacked_rows.specs.Told.{behind_zone_of}
use Rattle.unpacked_rows.proofs.behind_zone.Goals as goal

pub returns : goal.returns
unfolding behind_zone_of
returns c = rw (c.behind.ensures, c.word_at-name.ensures)
