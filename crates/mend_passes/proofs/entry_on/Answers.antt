-- `mend_passes::entry_on` meets its contract. Assumes nothing.
use mathlib.Core.Path.{sym}
use lib.Seq.{length-take-le}
use Rattle.find_line.proofs.FirstFields.{fields-end_le}
use Rattle.mend_tests.specs.Tests.{entry_on_of}
use Rattle.mend_passes.proofs.entry_on.Goals as goal

pub slice_bounds-third_id-end : goal.slice_bounds-third_id-end
slice_bounds-third_id-end c = let s = c.args.line.now in sym (length-take-le c.fields_end-e.result s (rw c.fields_end-e.ensures (fields-end_le s)))

pub returns : goal.returns
unfolding entry_on_of
returns c = rw (← c.fields_end-e.ensures) c.third_id.ensures
