-- `yard_reach::start_of` meets its contract: by the reply, and by the row that is found. Assumes nothing.
use Rattle.std.proofs.Common.{refl}
use Rattle.yard_reach.specs.Starts.{start_of, named}
use Rattle.yard_reach.proofs.start_of.Goals as goal

pub returns-in-Some : goal.returns-in-Some
unfolding start_of named
returns-in-Some c = rw (c.in-Ok.is, ← c.start_row-found.ensures, c.in-Some.is, c.in_word.ensures) refl

pub returns-in-None : goal.returns-in-None
unfolding start_of named
returns-in-None c = rw (c.in-Ok.is, ← c.start_row-found.ensures, c.in-None.is) refl

pub returns-in-Err : goal.returns-in-Err
unfolding start_of
returns-in-Err c = rw c.in-Err.is refl
