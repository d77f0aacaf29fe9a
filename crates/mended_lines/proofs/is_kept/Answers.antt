-- `mended_lines::is_kept` meets its contract, by the three cases. Assumes nothing.
use Rattle.mended_lines.specs.Given.{kept_of}
use Rattle.mended_lines.proofs.is_kept.Goals as goal

pub returns-in-Stays : goal.returns-in-Stays
unfolding kept_of
returns-in-Stays c = rw c.in-Stays.is

pub returns-in-Goes : goal.returns-in-Goes
unfolding kept_of
returns-in-Goes c = rw c.in-Goes.is

pub returns-in-Recount : goal.returns-in-Recount
unfolding kept_of
returns-in-Recount c = rw c.in-Recount.is
