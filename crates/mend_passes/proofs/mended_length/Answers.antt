-- `mend_passes::mended_length` meets its contract. Assumes nothing.
use Rattle.mend_passes.proofs.Steps.{nothing-out}
use Rattle.mend_passes.proofs.mended_length.Goals as goal

pub returns : goal.returns
returns c = nothing-out _ _ _ c.put_mended.ensures
