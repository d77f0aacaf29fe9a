-- `moves::lane_move` meets its contract. Assumes nothing.
use mathlib.Core.Path.{sym, ◌∙◌}
use Rattle.moves.specs.Moves.{lane_move_of}
use Rattle.moves.proofs.lane_move.Goals as goal

pub returns-then-next_in : goal.returns-then-next_in
unfolding lane_move_of
returns-then-next_in c = c.if-next_in.true ∙ rw (sym c.next_in.ensures ∙ c.if-next_in.true)

pub returns-else-next_in : goal.returns-else-next_in
unfolding lane_move_of
returns-else-next_in c = c.leads.ensures ∙ rw (sym c.next_in.ensures ∙ c.if-next_in.false)
