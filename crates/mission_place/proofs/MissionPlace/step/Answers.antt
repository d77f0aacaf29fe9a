-- `mission_place::MissionPlace::step` meets its contract. Assumes nothing.
use Rattle.mission_place.specs.Step.{by_cell}
use borrow.Author.Tests.{lt-ltb, le-ltb}
use Rattle.mission_place.proofs.MissionPlace.step.Goals as goal

pub returns-then-cell-lt-OFTEN : goal.returns-then-cell-lt-OFTEN
unfolding by_cell
returns-then-cell-lt-OFTEN c = rw (lt-ltb _ _ c.if-cell-lt-OFTEN.true) c.due_step.ensures

pub returns-then-cell-lt-REFUSED : goal.returns-then-cell-lt-REFUSED
unfolding by_cell
returns-then-cell-lt-REFUSED c = rw (le-ltb _ _ c.if-cell-lt-OFTEN.false, lt-ltb _ _ c.if-cell-lt-REFUSED.true) c.option_step.ensures

pub returns-else-cell-lt-REFUSED : goal.returns-else-cell-lt-REFUSED
unfolding by_cell
returns-else-cell-lt-REFUSED c = rw (le-ltb _ _ c.if-cell-lt-OFTEN.false, le-ltb _ _ c.if-cell-lt-REFUSED.false)
