-- `mission_progress::MissionProgress::onward` meets its contract. Assumes nothing.
use borrow.Enum.Refused.{opened}
use Rattle.mission_progress.specs.Progress.{counted_of, mission_after_of}
use Rattle.mission_progress.proofs.Rest.{none_more}
use Rattle.mission_progress.proofs.MissionProgress.onward.Goals as goal

pub returns-in-Goal : goal.returns-in-Goal
unfolding mission_after_of counted_of
returns-in-Goal c = rw (c.file_after-file.ensures, c.in-Goal.is)

pub returns-in-Limit : goal.returns-in-Limit
unfolding mission_after_of counted_of
returns-in-Limit c = rw (c.file_after-file.ensures, c.in-Limit.is)

pub returns-in_default : goal.returns-in_default
unfolding mission_after_of
returns-in_default c = rw (c.file_after-file.ensures, none_more c.args.o _ c.args.self (opened c.in_default.in_default-own.keys3))
