-- `permitted::not_above` meets its contract. Assumes nothing.
use Rattle.permitted.proofs.Computes.{not-above-is}
use mathlib.Core.Path.{sym}
use Rattle.permitted.proofs.not_above.Goals as goal

pub returns : goal.returns
returns c = sym (not-above-is _ _)
