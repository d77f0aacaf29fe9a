-- `house_lines::said_on` meets its contract. Assumes nothing.
use mathlib.Core.Path.{sym}
use lib.Seq.{length-take-le}
use Rattle.house_lines.specs.Said.{said_on_of}
use Rattle.house_lines.proofs.Heard.{body_le}
use Rattle.house_lines.proofs.said_on.Goals as goal

pub slice_bounds-said_in-end : goal.slice_bounds-said_in-end
slice_bounds-said_in-end c =
    let s = c.args.line.now in
    sym (length-take-le c.body_end-e.result s (rw c.body_end-e.ensures (body_le s)))

pub returns : goal.returns
unfolding said_on_of
returns c = rw (← c.body_end-e.ensures) c.said_in.ensures
