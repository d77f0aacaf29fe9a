-- `mission_progress::limit_row` meets its contract. Assumes nothing.
use Rattle.mission_progress.proofs.limit_row.Goals as goal

pub returns-in_default : goal.returns-in_default
returns-in_default c = rw (← c.new.ensures, c.in_default.is)

pub returns-in_default-new : goal.returns-in_default-new
returns-in_default-new c =
    rw (← c.new.ensures, c.in-Some.is, ← c.new-2.ensures, c.in_default-new.is)

pub returns-in_default-new-2 : goal.returns-in_default-new-2
returns-in_default-new-2 c =
    rw (← c.new.ensures, c.in-Some.is, ← c.new-2.ensures, c.in-Some-new.is, ← c.new-3.ensures, c.in_default-new-2.is)

pub returns : goal.returns
returns c =
    rw (← c.new.ensures, c.in-Some.is, ← c.new-2.ensures, c.in-Some-new.is, ← c.new-3.ensures, c.in-Some-new-2.is)
