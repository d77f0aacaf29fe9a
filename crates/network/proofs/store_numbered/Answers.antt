-- `network::store_numbered` meets its contract. Assumes nothing.
use mathlib.Core.Path.{refl}
use Rattle.network.specs.Storing.{store_numbered_of}
use Rattle.network.proofs.store_numbered.Goals as goal

pub returns-in_default : goal.returns-in_default
unfolding store_numbered_of
returns-in_default c = rw c.in_default.is refl

pub returns : goal.returns
unfolding store_numbered_of
returns c = rw c.in-Some.is c.store_checkpoint.ensures
