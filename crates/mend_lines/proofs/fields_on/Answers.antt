-- `mend_lines::fields_on` meets its contract. Assumes nothing.
use mathlib.Core.Path.{sym}
use lib.Seq.{length-take-le}
use Rattle.find_line.proofs.FirstFields.{fields-end_le}
use Rattle.mend_lines.proofs.fields_on.Goals as goal

pub slice_bounds-fields_of-end : goal.slice_bounds-fields_of-end
slice_bounds-fields_of-end c = let s = c.args.line.now in sym (length-take-le c.fields_end-e.result s (rw c.fields_end-e.ensures (fields-end_le s)))

pub returns : goal.returns
returns c = rw (← c.fields_end-e.ensures) c.fields_of.ensures
