-- `mission_judge::mission_judge_line` meets its contract. Assumes nothing.
use mathlib.Core.Path.{sym, ◌∙◌}
use Prim.Native.Nat.{◌+◌, ◌≤◌, ◌<◌}
use native.Mathlib.Omega.{arith}
use lib.Seq.{length-take-le}
use lib.ListN.{length}
use borrow.Author.Tests.{ltb-true}
use Rattle.line.proofs.Ends.{trim_le}
use Rattle.judge.specs.Judging.{line}
use Rattle.mission_judge.specs.MdfLine.{line_by}
use Rattle.mission_judge.proofs.mission_judge_line.Goals as goal

pub slice_bounds-content_told-end : goal.slice_bounds-content_told-end
slice_bounds-content_told-end c =
    let s = c.args.s.now in
    sym (length-take-le c.trimmed-e.result s (rw c.trimmed-e.ensures (trim_le s)))

pub content_told-requires : goal.content_told-requires
content_told-requires c =
    let A = c.args in
    let s = A.s.now in
    let reached : A.base + length s < 4294967296 = ltb-true _ _ (sym c.line_fits.ensures ∙ c.if-line_fits.true) in
    let h : c.trimmed-e.result ≤ length s = rw c.trimmed-e.ensures (trim_le s) in
    omega (arith, length-take-le c.trimmed-e.result s h)

pub returns-then-line_fits : goal.returns-then-line_fits
unfolding line_by line
returns-then-line_fits c = rw (← c.line_fits.ensures, c.if-line_fits.true, ← c.trimmed-e.ensures) c.content_told.ensures

pub returns-else-line_fits : goal.returns-else-line_fits
unfolding line_by
returns-else-line_fits c = rw (← c.line_fits.ensures, c.if-line_fits.false)
