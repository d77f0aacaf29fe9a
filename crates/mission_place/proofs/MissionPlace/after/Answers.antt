-- `mission_place::MissionPlace::after` meets its contract. Assumes nothing.
use mathlib.Core.Path.{sym, ◌∙◌}
use Rattle.mission_place.proofs.Rest.{stays}
use borrow.Enum.Refused.{opened}
use Rattle.mission_place.proofs.MissionPlace.after.Goals as goal

pub returns-in-NumCheckpoints : goal.returns-in-NumCheckpoints
returns-in-NumCheckpoints c = rw c.in-NumCheckpoints.is c.at.ensures

pub returns-in-NumSpeedLimits : goal.returns-in-NumSpeedLimits
returns-in-NumSpeedLimits c = rw c.in-NumSpeedLimits.is c.at-in-NumSpeedLimits.ensures

pub returns-in-Goal : goal.returns-in-Goal
returns-in-Goal c = rw (c.in-Goal.is, ← c.less.ensures) c.at-in-Goal.ensures

pub returns-in-Limit : goal.returns-in-Limit
returns-in-Limit c = rw (c.in-Limit.is, ← c.less-in-Limit.ensures) c.at-in-Limit.ensures

pub returns-in_default : goal.returns-in_default
returns-in_default c = c.at-in_default.ensures ∙ sym (stays c.args.self c.args.s c.args.row (opened c.in_default.in_default-own.keys5))
