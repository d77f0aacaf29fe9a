-- `column::field_at_fault` meets its contract. Assumes nothing.
use Rattle.column.proofs.field_at_fault.Goals as goal

pub field_of-requires : goal.field_of-requires
field_of-requires c = c.fields_of-f.ensures

pub returns : goal.returns
returns c = rw (← c.fields_of-f.ensures) c.field_of.ensures
