-- `moves::zone_move` meets its contract. Assumes nothing.
use mathlib.Core.Path.{sym, ◌∙◌}
use Rattle.moves.specs.Moves.{zone_move_of}
use Rattle.moves.proofs.zone_move.Goals as goal

pub returns-then-across : goal.returns-then-across
unfolding zone_move_of
returns-then-across c = c.if-across.true ∙ rw (sym c.across.ensures ∙ c.if-across.true)

pub returns-else-across : goal.returns-else-across
unfolding zone_move_of
returns-else-across c = c.leads.ensures ∙ rw (sym c.across.ensures ∙ c.if-across.false)
