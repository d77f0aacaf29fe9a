-- `mission_place::permits` meets its contract. Assumes nothing.
use mathlib.Core.Path.{sym}
use Rattle.mission_place.proofs.Rest.{any_value}
use borrow.Enum.Refused.{opened}
use Rattle.mission_place.proofs.permits.Goals as goal

pub returns-in-NumCheckpoints : goal.returns-in-NumCheckpoints
returns-in-NumCheckpoints c = rw c.in-NumCheckpoints.is c.counted.ensures

pub returns-in-NumSpeedLimits : goal.returns-in-NumSpeedLimits
returns-in-NumSpeedLimits c = rw c.in-NumSpeedLimits.is c.counted-in-NumSpeedLimits.ensures

pub returns-in-Goal : goal.returns-in-Goal
returns-in-Goal c = rw c.in-Goal.is c.checkpoint_number.ensures

pub returns-in-Limit : goal.returns-in-Limit
returns-in-Limit c = rw c.in-Limit.is c.limited.ensures

pub returns-in_default : goal.returns-in_default
returns-in_default c = sym (any_value c.args.s (opened c.in_default.in_default-own.keys5))
