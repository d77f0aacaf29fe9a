-- `look_up::point_of_word` meets its contract: no row that was passed has the number. Assumes nothing.
use mathlib.Core.Path.{refl, ◌∙◌}
use mathlib.Core.Logic.{inl, inr}
use Prim.Native.Nat.{◌<◌, ◌≤◌}
use native.Mathlib.Omega.{arith}
use lib.ListN.{length}
use Rattle.rows.specs.Lay.{rows_of}
use Rattle.rows.specs.Strides.{checkpoint_stride}
use Rattle.look_up.specs.LookUp.{first_row, no_row}
use Rattle.look_up.proofs.Answers.{row_words, one_more, none_at_all}
use Rattle.look_up.proofs.point_of_word.Goals as goal

pub returns-then-wanted-eq0 : goal.returns-then-wanted-eq0
returns-then-wanted-eq0 c = no_row (inl c.if-wanted-eq0.true) refl

pub loop-row-init : goal.loop-row-init
loop-row-init c = let p = c.passed-row.ensures in (rw c.rows_of-row-end.ensures p.0, p.1)

pub returns-then-checkpoints-at : goal.returns-then-checkpoints-at
returns-then-checkpoints-at c =
    let a = c.args in
    let h : c.loop-row.row < rows_of (length a.checkpoints.now) checkpoint_stride = rw c.rows_of-row-end.ensures at c.loop-row-test.true in
    first_row c.loop-row.row c.if-wanted-eq0.false (row_words a.checkpoints.now c.loop-row.row h ∙ rw c.if-checkpoints-at.true) c.loop-row.invariant.1

pub loop-row-preserved : goal.loop-row-preserved
loop-row-preserved c =
    let a = c.args in
    let h : c.loop-row.row < rows_of (length a.checkpoints.now) checkpoint_stride = rw c.rows_of-row-end.ensures at c.loop-row-test.true in
    (omega arith, one_more a.checkpoints.now c.loop-row.row a.wanted h c.if-checkpoints-at.false c.loop-row.invariant.1)

pub returns : goal.returns
returns c =
    let a = c.args in
    let h : rows_of (length a.checkpoints.now) checkpoint_stride ≤ c.loop-row.row = rw c.rows_of-row-end.ensures at c.loop-row-test.false in
    no_row (inr (none_at_all a.checkpoints.now c.loop-row.row a.wanted h c.loop-row.invariant.1)) refl
