-- `line::is_shut` meets its contract. Assumes nothing.
use mathlib.Core.Path.{sym, ap, ◌∙◌}
use borrow.Author.Tests.{le-leb}
use Prim.Native.Nat.{◌+◌, ◌-◌}
use native.Mathlib.Omega.{arith}
use lib.ListN.{length, drop, length-drop}
use lib.Seq.{take_all}
use Rattle.scan.proofs.Reach.{two-fit}
use Rattle.line.specs.Forms.{closes}
use Rattle.line.proofs.Comments.{shut-some, shut_none}
use Rattle.line.proofs.is_shut.Goals as goal

pub slice_bounds-closed-count : goal.slice_bounds-closed-count
slice_bounds-closed-count c =
    let s = c.args.s.now in
    omega (arith, c.requires, two-fit 47 42 s (rw c.requires at c.if-s-mark.false))

pub slice_bounds-closed-start : goal.slice_bounds-closed-start
slice_bounds-closed-start c =
    let s = c.args.s.now in
    omega (arith, c.requires, two-fit 47 42 s (rw c.requires at c.if-s-mark.false))

pub returns-then-s-mark : goal.returns-then-s-mark
returns-then-s-mark c =
    let s = c.args.s.now in
    le-leb _ _ c.if-s-mark.true ∙ sym (shut_none s (rw c.requires at c.if-s-mark.true))

pub returns-else-s-mark : goal.returns-else-s-mark
returns-else-s-mark c =
    let s = c.args.s.now in
    let k = c.args.mark + 2 in
    c.closed.ensures ∙ ap closes (take_all (length s - k) (drop k s) (omega (arith, length-drop k s))) ∙ rw c.requires (sym (shut-some s (rw c.requires at c.if-s-mark.false)))
