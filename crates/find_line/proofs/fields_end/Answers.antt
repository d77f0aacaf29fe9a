-- `find_line::fields_end` meets its contract. Assumes nothing.
use mathlib.Core.Path.{refl, sym}
use lib.Seq.{length-take-le}
use native.Mathlib.Nat.{zero-add}
use Rattle.line.proofs.Ends.{trim_le}
use Rattle.find_line.specs.FoundLines.{fields_end_of}
use Rattle.find_line.proofs.fields_end.Goals as goal

pub slice_bounds-two_from-end : goal.slice_bounds-two_from-end
slice_bounds-two_from-end c =
    let s = c.args.s.now in
    sym (length-take-le c.trimmed-e.result s (rw c.trimmed-e.ensures (trim_le s)))

pub returns : goal.returns
unfolding fields_end_of
returns c = rw (c.two_from.ensures, c.trimmed-e.ensures, zero-add) refl
