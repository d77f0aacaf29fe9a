-- `find_line::rndf_line_kind` meets its contract. Assumes nothing.
use mathlib.Core.Path.{sym}
use lib.Seq.{length-take-le}
use Rattle.find_line.specs.FoundLines.{rndf_line_kind_of}
use Rattle.find_line.proofs.FirstFields.{fields-end_le}
use Rattle.find_line.proofs.rndf_line_kind.Goals as goal

pub slice_bounds-first_kind-end : goal.slice_bounds-first_kind-end
slice_bounds-first_kind-end c =
    let s = c.args.s.now in
    sym (length-take-le c.fields_end-e.result s (rw c.fields_end-e.ensures (fields-end_le s)))

pub returns : goal.returns
unfolding rndf_line_kind_of
returns c = rw (← c.fields_end-e.ensures) c.first_kind.ensures
