-- `column::leads` meets its contract. Assumes nothing.
use Rattle.column.proofs.leads.Goals as goal

pub returns : goal.returns
returns c = c.exits.ensures
