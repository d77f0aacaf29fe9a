-- `marks::first_repeat` meets its contract. The loop's invariant: the marks are those of the numbers of the rows before, and none of these rows is a repeat. Assumes nothing.
use mathlib.Core.Path.{◌≡◌, refl, sym, ap, ◌∙◌}
use mathlib.Core.Bool.{true, false}
use Prim.Native.Nat.{zero-le}
use native.Mathlib.Numerals.{add-one}
use native.Mathlib.Omega.{arith}
use Rattle.marks.specs.Rows.{checkpoint_says, said}
use Rattle.marks.specs.Tests.{seen, row_of, repeated, first_repeat_of}
use Rattle.marks.proofs.Seen.{none-marked, one_more}
use Rattle.marks.proofs.Walked.{whole, at-end, hit, passed}
use Rattle.marks.proofs.first_repeat.Goals as goal

pub loop-row-init : goal.loop-row-init
unfolding said
loop-row-init c =
    let a = c.args in
    (zero-le, none-marked 4096 refl, whole repeated (checkpoint_says a.checkpoints.now) a.count)

pub returns-then-is_marked : goal.returns-then-is_marked
unfolding first_repeat_of
returns-then-is_marked c =
    let t = c.args.checkpoints.now in
    let again : seen (said (checkpoint_says t) c.loop-row.row) (checkpoint_says t c.loop-row.row) ≡ true = sym (c.loop-row.invariant.1.tells (checkpoint_says t c.loop-row.row)) ∙ sym (rw c.checkpoint_at-checkpoint.ensures at c.is_marked.ensures) ∙ c.if-is_marked.true in
    sym (ap row_of (sym c.loop-row.invariant.2 ∙ hit repeated (checkpoint_says t) c.args.count c.loop-row.row 13 (omega arith) (rw again)))

pub loop-row-preserved : goal.loop-row-preserved
unfolding said
loop-row-preserved c =
    let t = c.args.checkpoints.now in
    let new : seen (said (checkpoint_says t) c.loop-row.row) (checkpoint_says t c.loop-row.row) ≡ false = sym (c.loop-row.invariant.1.tells (checkpoint_says t c.loop-row.row)) ∙ sym (rw c.checkpoint_at-checkpoint.ensures at c.is_marked.ensures) ∙ c.if-is_marked.false in
    (omega arith, rw (c.mark.ensures, c.checkpoint_at-checkpoint.ensures, add-one) (one_more c.loop-row.invariant.1 (checkpoint_says t c.loop-row.row)), sym (passed repeated (checkpoint_says t) c.args.count c.loop-row.row (omega arith) (rw new)) ∙ c.loop-row.invariant.2)

pub returns : goal.returns
unfolding first_repeat_of
returns c =
    let a = c.args in
    sym (ap row_of (sym c.loop-row.invariant.2 ∙ at-end repeated (checkpoint_says a.checkpoints.now) a.count c.loop-row.row (omega arith)))
