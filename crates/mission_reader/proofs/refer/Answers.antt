-- `mission_reader::refer` meets its contract. Assumes nothing.
use Rattle.mission_reader.specs.MissionReading.{refer_of, goal_found}
use mathlib.Core.Path.{refl}
use Rattle.mission_reader.proofs.refer.Goals as goal

pub returns-in-Some : goal.returns-in-Some
unfolding refer_of goal_found
returns-in-Some c = rw (← c.same_name.ensures, c.if-same_name.true, ← c.first_foreign_goal-foreign.ensures, c.in-Some.is, ← c.mdf_line.ensures) refl

pub returns-in-None : goal.returns-in-None
unfolding refer_of goal_found
returns-in-None c = rw (← c.same_name.ensures, c.if-same_name.true, ← c.first_foreign_goal-foreign.ensures, c.in-None.is) c.limits_fault.ensures

pub returns-else-same_name : goal.returns-else-same_name
unfolding refer_of
returns-else-same_name c = rw (← c.same_name.ensures, c.if-same_name.false, ← c.mdf_line-else-same_name.ensures) refl
