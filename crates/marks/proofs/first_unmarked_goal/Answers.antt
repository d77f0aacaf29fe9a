-- `marks::first_unmarked_goal` meets its contract. Assumes nothing.
use mathlib.Core.Path.{◌≡◌, sym, ap, ◌∙◌}
use mathlib.Core.Bool.{true, false}
use Prim.Native.Nat.{zero-le}
use native.Mathlib.Omega.{arith}
use Rattle.marks.specs.Rows.{goal_says}
use Rattle.marks.specs.Tests.{row_of}
use Rattle.marks.specs.Marks.{is_marked_of, unmarked}
use Rattle.marks.proofs.Walked.{whole, at-end, hit, passed}
use Rattle.marks.proofs.first_unmarked_goal.Goals as goal

pub loop-row-init : goal.loop-row-init
loop-row-init c =
    let a = c.args in
    (zero-le, whole (unmarked a.marks.now) (goal_says a.goals.now) a.count)

pub returns-then-not-is_marked : goal.returns-then-not-is_marked
returns-then-not-is_marked c =
    let a = c.args in
    let e : is_marked_of a.marks.now (goal_says a.goals.now c.loop-row.row) ≡ false = sym (rw c.goal_at-goal.ensures at c.is_marked.ensures) ∙ c.if-not-is_marked.true in
    sym (ap row_of (sym c.loop-row.invariant.1 ∙ hit (unmarked a.marks.now) (goal_says a.goals.now) a.count c.loop-row.row 15 (omega arith) (rw e)))

pub loop-row-preserved : goal.loop-row-preserved
loop-row-preserved c =
    let a = c.args in
    let e : is_marked_of a.marks.now (goal_says a.goals.now c.loop-row.row) ≡ true = sym (rw c.goal_at-goal.ensures at c.is_marked.ensures) ∙ c.if-not-is_marked.false in
    (omega arith, sym (passed (unmarked a.marks.now) (goal_says a.goals.now) a.count c.loop-row.row (omega arith) (rw e)) ∙ c.loop-row.invariant.1)

pub returns : goal.returns
returns c =
    let a = c.args in
    sym (ap row_of (sym c.loop-row.invariant.1 ∙ at-end (unmarked a.marks.now) (goal_says a.goals.now) a.count c.loop-row.row (omega arith)))
