-- `mend_lines::number_on` meets its contract. Assumes nothing.
use mathlib.Core.Path.{sym}
use lib.Seq.{length-take-le}
use Rattle.find_line.proofs.FirstFields.{fields-end_le}
use Rattle.mend_lines.specs.Forward.{number_on_of}
use Rattle.mend_lines.proofs.number_on.Goals as goal

pub slice_bounds-second_number-end : goal.slice_bounds-second_number-end
slice_bounds-second_number-end c = let s = c.args.line.now in sym (length-take-le c.fields_end-e.result s (rw c.fields_end-e.ensures (fields-end_le s)))

pub returns : goal.returns
unfolding number_on_of
returns c = rw (← c.fields_end-e.ensures) c.second_number.ensures
