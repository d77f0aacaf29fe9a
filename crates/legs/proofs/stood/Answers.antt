-- `legs::stood` meets its contract: the goals that are left say what all say. Assumes nothing.
use mathlib.Core.Path.{sym, ◌∙◌}
use Rattle.legs.proofs.Steps.{stood-here, stood_on, stood-over}
use Rattle.legs.proofs.stood.Goals as goal

pub returns-then-word-number : goal.returns-then-word-number
returns-then-word-number c =
    let a = c.args in
    sym (stood-here a.goals.now a.number c.loop-row.row c.loop-row-test.true (sym c.word.ensures ∙ c.if-word-number.true)) ∙ c.loop-row.invariant

pub loop-row-preserved : goal.loop-row-preserved
loop-row-preserved c =
    let a = c.args in
    stood_on a.goals.now a.number c.loop-row.row c.loop-row-test.true (λ e. c.if-word-number.false (c.word.ensures ∙ e)) ∙ c.loop-row.invariant

pub returns : goal.returns
returns c =
    let a = c.args in
    sym (stood-over a.goals.now a.number c.loop-row.row c.loop-row-test.false) ∙ c.loop-row.invariant
