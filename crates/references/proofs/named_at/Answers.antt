-- `references::named_at` meets its contract. Assumes nothing.
use Rattle.references.specs.Exits.{named_at}
use Rattle.references.proofs.named_at.Goals as goal

pub returns : goal.returns
unfolding named_at
returns c = rw (← c.entry_at-e.ensures) c.resolve.ensures
