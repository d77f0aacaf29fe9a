-- `place::Place::moved` meets its contract. Assumes nothing.
use borrow.Author.Tests.{lt-ltb, le-ltb}
use Rattle.place.specs.Step.{moved_of}
use Rattle.place.proofs.Place.moved.Goals as goal

pub returns-then-cell-lt-OFTEN : goal.returns-then-cell-lt-OFTEN
unfolding moved_of
returns-then-cell-lt-OFTEN c = rw (lt-ltb _ _ c.if-cell-lt-OFTEN.true) c.after.ensures

pub returns-else-cell-lt-OFTEN : goal.returns-else-cell-lt-OFTEN
unfolding moved_of
returns-else-cell-lt-OFTEN c = rw (le-ltb _ _ c.if-cell-lt-OFTEN.false) c.opted.ensures
