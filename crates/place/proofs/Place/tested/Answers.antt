-- `place::Place::tested` meets its contract. Assumes nothing.
use borrow.Author.Tests.{lt-ltb, le-ltb}
use Rattle.place_table.specs.Verdicts.{verdict_of}
use Rattle.place.specs.Step.{tested_of}
use Rattle.place.proofs.Place.tested.Goals as goal
use Rattle.place.proofs.Place.tested.Goals.{else-cell-lt-OFTEN-via-else-cell-lt-OFTEN, else-cell-lt-OFTEN-via-then-cell-lt-OFTEN+else-not-ready}

pub returns-then-not-permits : goal.returns-then-not-permits
unfolding tested_of verdict_of
returns-then-not-permits c = rw (← c.permits.ensures, c.if-not-permits.true)

pub returns-then-not-ready : goal.returns-then-not-ready
unfolding tested_of verdict_of
returns-then-not-ready c = rw (← c.permits.ensures, c.if-not-permits.false, lt-ltb _ _ c.if-cell-lt-OFTEN.true, ← c.ready.ensures, c.if-not-ready.true)

pub returns-else-cell-lt-OFTEN : goal.returns-else-cell-lt-OFTEN
unfolding tested_of verdict_of
returns-else-cell-lt-OFTEN c = elim c.else-cell-lt-OFTEN.branch [
  | else-cell-lt-OFTEN-via-else-cell-lt-OFTEN w ↦ rw (← c.permits.ensures, c.if-not-permits.false, le-ltb _ _ w.if-cell-lt-OFTEN.false)
  | else-cell-lt-OFTEN-via-then-cell-lt-OFTEN+else-not-ready w ↦ rw (← c.permits.ensures, c.if-not-permits.false, lt-ltb _ _ w.if-cell-lt-OFTEN.true, ← w.ready.ensures, w.if-not-ready.false)
]
