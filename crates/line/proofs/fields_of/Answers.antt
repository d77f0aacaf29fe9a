-- `line::fields_of` meets its contract. Assumes nothing.
use Rattle.line.specs.Forms.{fields_in_of}
use Rattle.line.proofs.fields_of.Goals as goal

pub returns : goal.returns
unfolding fields_in_of
returns c = rw (c.count_of-count.ensures, c.span_at-d.ensures, c.span_at-c.ensures, c.span_at-b.ensures, c.span_at-a.ensures)
