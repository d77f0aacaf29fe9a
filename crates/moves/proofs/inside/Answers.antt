-- `moves::inside` meets its contract. Assumes nothing.
use borrow.Author.Tests.{le-leb, lt-leb}
use Rattle.moves.specs.Moves.{inside}
use Rattle.moves.proofs.inside.Goals as goal

pub returns-then-part-at : goal.returns-then-part-at
unfolding inside
returns-then-part-at c = rw (le-leb _ _ c.if-part-at.true)

pub returns-else-part-at : goal.returns-else-part-at
unfolding inside
returns-else-part-at c = rw (lt-leb _ _ c.if-part-at.false)
