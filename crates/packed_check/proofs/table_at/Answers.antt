-- `packed_check::table_at` meets its contract. Assumes nothing.
use mathlib.Core.Path.{ap}
use Rattle.packed_check.proofs.table_at.Goals as goal

pub returns : goal.returns
returns c = ap (λ n. record { from = n; count = c.args.count }) c.in_word.ensures
