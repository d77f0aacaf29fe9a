-- `house_lines::put_run` meets its contract. Assumes nothing.
use Rattle.output.proofs.Writing.{none}
use Rattle.house_lines.proofs.put_run.Goals as goal

pub returns-then-due : goal.returns-then-due
returns-then-due c = rw c.if-due.true c.put_passes.ensures

pub returns : goal.returns
returns c = rw c.if-due.false none
