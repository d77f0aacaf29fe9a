-- `permitted::up_to` meets its contract. Assumes nothing.
use Rattle.permitted.proofs.Computes.{up-to-is}
use mathlib.Core.Path.{sym}
use Rattle.permitted.proofs.up_to.Goals as goal

pub returns : goal.returns
returns c = sym (up-to-is _ _)
