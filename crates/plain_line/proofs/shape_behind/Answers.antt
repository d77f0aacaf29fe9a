-- `plain_line::shape_behind` meets its contract. Assumes nothing.
use mathlib.Core.Path.{◌∙◌}
use Rattle.plain_line.proofs.shape_behind.Goals as goal

pub number_behind-requires : goal.number_behind-requires
number_behind-requires c = c.requires.0 ∙ c.in-2.is

pub pair_behind-requires : goal.pair_behind-requires
pair_behind-requires c = c.requires.0 ∙ c.in-3.is

pub side_behind-requires : goal.side_behind-requires
side_behind-requires c = c.requires.0 ∙ c.in-4.is

pub name_behind-requires : goal.name_behind-requires
name_behind-requires c = (c.requires.0 ∙ c.in-1.is, c.requires.1)
