-- `permitted::at_most` meets its contract. Assumes nothing.
use Rattle.permitted.proofs.Computes.{at-most-is}
use mathlib.Core.Path.{sym}
use Rattle.permitted.proofs.at_most.Goals as goal

pub returns : goal.returns
returns c = sym (at-most-is _)
