-- `unpacked_rows::behind` meets its contract. Assumes nothing.
use Rattle.unpacked_rows.proofs.Storing.{stays, steps}
use native.Mathlib.Omega.{arith}
use Rattle.unpacked_rows.proofs.behind.Goals as goal

pub returns-then-long-size : goal.returns-then-long-size
returns-then-long-size c = stays c.args.long c.args.at c.args.size (omega arith)

pub returns-then-long-size-2 : goal.returns-then-long-size-2
returns-then-long-size-2 c = stays c.args.long c.args.at c.args.size (omega arith)

pub returns : goal.returns
returns c = steps c.args.long c.args.at c.args.size (omega arith)
