-- `mend_pieces::line_stop` meets its contract. Assumes nothing.
use Rattle.mend_pieces.proofs.Steps.{stop-inside, stop-outside}
use Rattle.mend_pieces.proofs.line_stop.Goals as goal

pub returns-then-e-text : goal.returns-then-e-text
returns-then-e-text c = stop-inside _ _ _ c.far_byte_from-e.ensures c.if-e-text.true

pub returns-else-e-text : goal.returns-else-e-text
returns-else-e-text c = stop-outside _ _ _ c.far_byte_from-e.ensures c.if-e-text.false
