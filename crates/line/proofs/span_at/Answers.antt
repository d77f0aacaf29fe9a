-- `line::span_at` meets its contract. Assumes nothing.
use Rattle.line.specs.Forms.{span_at_of}
use Rattle.line.proofs.span_at.Goals as goal

pub returns : goal.returns
unfolding span_at_of
returns c = rw (c.separator_from-stop.ensures, c.not_separator_from-start.ensures)
