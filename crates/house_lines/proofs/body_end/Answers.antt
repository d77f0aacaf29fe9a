-- `house_lines::body_end` meets its contract. Assumes nothing.
use mathlib.Core.Path.{sym, ◌∙◌}
use lib.ListN.{take}
use lib.Seq.{length-take-le}
use Rattle.scan.proofs.Reach.{from_start}
use Rattle.line.specs.Forms.{opens}
use Rattle.line.proofs.Ends.{trim_le}
use Rattle.house_lines.specs.Said.{body_end_of}
use Rattle.house_lines.proofs.body_end.Goals as goal

pub slice_bounds-two_from-end : goal.slice_bounds-two_from-end
slice_bounds-two_from-end c =
    let s = c.args.line.now in
    sym (length-take-le c.trimmed-e.result s (rw c.trimmed-e.ensures (trim_le s)))

pub returns : goal.returns
unfolding body_end_of
returns c =
    let s = c.args.line.now in
    rw (← c.trimmed-e.ensures) (c.two_from.ensures ∙ from_start opens (take c.trimmed-e.result s))
