-- `permitted::the_number` meets its contract. Assumes nothing.
use Rattle.permitted.proofs.Computes.{the-number-is}
use mathlib.Core.Path.{sym}
use Rattle.permitted.proofs.the_number.Goals as goal

pub returns : goal.returns
returns c = sym (the-number-is _ _)
