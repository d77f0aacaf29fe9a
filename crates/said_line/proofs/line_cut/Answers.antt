-- `said_line::line_cut` meets its contract. Assumes nothing.
use mathlib.Core.Path.{sym}
use Prim.Native.Nat.{◌≤◌}
use native.Mathlib.Omega.{arith}
use lib.Seq.{length-take-le}
use lib.ListN.{length}
use Rattle.line.proofs.Ends.{trim-take, trim_le}
use Rattle.line_fields.specs.LineFields.{line_fields_of}
use Rattle.judge.specs.Judging.{line}
use Rattle.said_line.proofs.line_cut.Goals as goal

pub slice_bounds-content_cut-end : goal.slice_bounds-content_cut-end
slice_bounds-content_cut-end c =
    let s = c.args.s.now in
    sym (length-take-le c.trimmed-e.result s (rw c.trimmed-e.ensures (trim_le s)))

pub content_cut-requires : goal.content_cut-requires
content_cut-requires c =
    let start = c in
    let s = start.args.s.now in
    let h : c.trimmed-e.result ≤ length s = rw c.trimmed-e.ensures (trim_le s) in
    omega (arith, start.requires, length-take-le c.trimmed-e.result s h)

pub returns : goal.returns
unfolding line line_fields_of
returns c =
    let s = c.args.s.now in
    let k = rw c.trimmed-e.ensures at c.content_cut.ensures in
    (rw (← c.trimmed-e.ensures) c.content_cut.ensures.0, rw (← (trim-take s)) k.1)
