-- `house_lines::put_further` meets its contract. Assumes nothing.
use Rattle.output.proofs.Writing.{none, ◌then◌}
use Rattle.house_lines.specs.Said.{behind_tab}
use Rattle.house_lines.proofs.put_further.Goals as goal

pub returns-then-there : goal.returns-then-there
unfolding behind_tab
returns-then-there c = rw c.if-there.true (c.put_tab-to.ensures then c.put_field.ensures)

pub returns : goal.returns
unfolding behind_tab
returns c = rw c.if-there.false none
