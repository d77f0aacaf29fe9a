-- `line::closed` meets its contract. Assumes nothing.
use mathlib.Core.Path.{sym, ap, ◌∙◌}
use borrow.Author.Tests.{le-ltb}
use Prim.Native.Nat.{◌+◌, ◌-◌}
use native.Mathlib.Omega.{arith}
use lib.ListN.{length, drop, length-drop}
use lib.Seq.{take_all}
use Rattle.scan.specs.Allowed.{separates, all}
use Rattle.scan.proofs.Reach.{from_start, two-fit}
use Rattle.line.specs.Forms.{shuts}
use Rattle.line.proofs.Comments.{closes-some, closes-none}
use Rattle.line.proofs.closed.Goals as goal

pub slice_bounds-all_separators-count : goal.slice_bounds-all_separators-count
slice_bounds-all_separators-count c =
    let s = c.args.s.now in
    let q = c.two_from-e.ensures ∙ from_start shuts s in
    omega (arith, q, two-fit 42 47 s (rw q at c.if-e-s.true))

pub slice_bounds-all_separators-start : goal.slice_bounds-all_separators-start
slice_bounds-all_separators-start c =
    let s = c.args.s.now in
    let q = c.two_from-e.ensures ∙ from_start shuts s in
    omega (arith, q, two-fit 42 47 s (rw q at c.if-e-s.true))

pub returns-then-e-s : goal.returns-then-e-s
returns-then-e-s c =
    let s = c.args.s.now in
    let q = c.two_from-e.ensures ∙ from_start shuts s in
    let k = c.two_from-e.result + 2 in
    c.all_separators.ensures ∙ ap (all separates) (take_all (length s - k) (drop k s) (omega (arith, length-drop k s))) ∙ rw q (sym (closes-some s (rw q at c.if-e-s.true)))

pub returns-else-e-s : goal.returns-else-e-s
returns-else-e-s c =
    let s = c.args.s.now in
    let q = c.two_from-e.ensures ∙ from_start shuts s in
    le-ltb _ _ c.if-e-s.false ∙ sym (closes-none s (rw q at c.if-e-s.false))
