-- `network::at_end` meets its contract. Assumes nothing.
use Rattle.std.proofs.lemmas.Result.{err_from_is_err_and}
use Rattle.network.specs.Reaching.{ended_of}
use Rattle.network.proofs.at_end.Goals as goal

pub returns-in_err-place : goal.returns-in_err-place
unfolding ended_of
returns-in_err-place c =
    let e = err_from_is_err_and c.from_residual.result c.from_residual.ensures.1 in
    rw (e.1, e.2, c.in_err-place.was)

pub returns-then-is_over : goal.returns-then-is_over
unfolding ended_of
returns-then-is_over c = rw (c.in_ok-place.was, ← c.is_over.ensures, c.if-is_over.true)

pub returns-else-is_over : goal.returns-else-is_over
unfolding ended_of
returns-else-is_over c = rw (c.in_ok-place.was, ← c.is_over.ensures, c.if-is_over.false)
