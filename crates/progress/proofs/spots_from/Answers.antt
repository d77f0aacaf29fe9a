-- `progress::spots_from` meets its contract. Assumes nothing.
use Rattle.progress.proofs.Steps.{not_none}
use Rattle.progress.proofs.spots_from.Goals as goal

pub returns-else-n-eq0 : goal.returns-else-n-eq0
returns-else-n-eq0 c = not_none c.args.spots c.args.n c.if-n-eq0.false
