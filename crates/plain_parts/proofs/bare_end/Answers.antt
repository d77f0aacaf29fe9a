-- `plain_parts::bare_end` meets its contract. Assumes nothing.
use mathlib.Core.Logic.{inl, inr}
use native.Mathlib.Omega.{arith}
use Rattle.plain_parts.proofs.Ended.{ends-here}
use Rattle.plain_parts.proofs.bare_end.Goals as goal

pub returns-in-10 : goal.returns-in-10
returns-in-10 c = ends-here c.args.s.now c.args.at (omega arith) (inr c.in-10.is)

pub returns-then-at-s-2 : goal.returns-then-at-s-2
returns-then-at-s-2 c = ends-here c.args.s.now c.args.at (omega arith) (inl c.if-at-s-2.true)
