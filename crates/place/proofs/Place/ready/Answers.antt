-- `place::Place::ready` meets its contract. Assumes nothing.
use borrow.Author.Tests.{eq-eqb, ne_eqb}
use Rattle.place.proofs.Place.ready.Goals as goal

pub returns-then-self-ne-FIRST_OF_SPOT_DUE : goal.returns-then-self-ne-FIRST_OF_SPOT_DUE
returns-then-self-ne-FIRST_OF_SPOT_DUE c = rw (ne_eqb _ _ c.if-self-ne-FIRST_OF_SPOT_DUE.true)

pub returns-else-self-ne-FIRST_OF_SPOT_DUE : goal.returns-else-self-ne-FIRST_OF_SPOT_DUE
returns-else-self-ne-FIRST_OF_SPOT_DUE c = rw (eq-eqb _ _ c.if-self-ne-FIRST_OF_SPOT_DUE.false)
