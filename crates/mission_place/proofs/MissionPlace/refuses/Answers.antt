-- `mission_place::MissionPlace::refuses` meets its contract. Assumes nothing.
use Rattle.place_table.specs.Verdicts.{verdict_of}
use Rattle.mission_place.specs.Step.{refuses_by}
use borrow.Author.Tests.{lt-ltb, le-ltb}
use Rattle.mission_place.proofs.MissionPlace.refuses.Goals as goal

pub returns-then-cell-lt-OFTEN : goal.returns-then-cell-lt-OFTEN
unfolding refuses_by verdict_of
returns-then-cell-lt-OFTEN c = rw (lt-ltb _ _ c.if-cell-lt-OFTEN.true)

pub returns-then-cell-ge-REFUSED : goal.returns-then-cell-ge-REFUSED
unfolding refuses_by verdict_of
returns-then-cell-ge-REFUSED c = rw (le-ltb _ _ c.if-cell-lt-OFTEN.false, le-ltb _ _ c.if-cell-ge-REFUSED.true)

pub returns-then-has : goal.returns-then-has
unfolding refuses_by verdict_of
returns-then-has c = rw (le-ltb _ _ c.if-cell-lt-OFTEN.false, lt-ltb _ _ c.if-cell-ge-REFUSED.false, ← c.has.ensures, c.if-has.true)

pub returns-else-has : goal.returns-else-has
unfolding refuses_by verdict_of
returns-else-has c = rw (le-ltb _ _ c.if-cell-lt-OFTEN.false, lt-ltb _ _ c.if-cell-ge-REFUSED.false, ← c.has.ensures, c.if-has.false)
