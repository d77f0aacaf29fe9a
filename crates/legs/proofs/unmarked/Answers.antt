-- `legs::unmarked` meets its contract. Assumes nothing.
use mathlib.Core.Path.{sym, ap, ◌∙◌}
use Prim.Native.Nat.{ℕ}
use lib.Dec.{eqb}
use lib.ListN.{get_or}
use Rattle.goal_points.specs.Goals.{goal_point_of}
use Rattle.legs.proofs.Steps.{other-number, this-number}
use Rattle.legs.proofs.unmarked.Goals as goal

pub returns-then-word-number : goal.returns-then-word-number
returns-then-word-number c =
    let a = c.args in
    sym (other-number a.goals.now (goal_point_of a.checkpoints.now a.goals.now) a.work.now a.number a.leg (λ e. c.if-word-number.true (c.word.ensures ∙ e)))

pub returns : goal.returns
returns c =
    let a = c.args in
    ap (λ (x : ℕ). eqb x 0) (c.word-2.ensures ∙ ap (λ (x : ℕ). get_or a.work.now x 0) c.goal_point-point.ensures)
    ∙ sym (this-number a.goals.now (goal_point_of a.checkpoints.now a.goals.now) a.work.now a.number a.leg (sym c.word.ensures ∙ c.if-word-number.false))
