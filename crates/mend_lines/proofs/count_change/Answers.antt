-- `mend_lines::count_change` meets its contract. Assumes nothing.
use Rattle.mend_lines.specs.Forward.{count_change_of}
use Rattle.mend_lines.proofs.count_change.Goals as goal

pub returns-in_default : goal.returns-in_default
unfolding count_change_of
returns-in_default c = rw (← c.counts_of.ensures, c.in_default.is)

pub returns : goal.returns
unfolding count_change_of
returns c = rw (← c.counts_of.ensures, c.in-Some.is, ← c.number_on-number.ensures, ← c.items_from.ensures) c.corrected.ensures
