-- `answers::goal_line` meets its contract: by the count of lines. Assumes nothing.
use Rattle.answers.specs.Answers.{goal_line_of}
use Rattle.answers.proofs.goal_line.Goals as goal

pub returns : goal.returns
unfolding goal_line_of
returns c = c.mdf_line.ensures
