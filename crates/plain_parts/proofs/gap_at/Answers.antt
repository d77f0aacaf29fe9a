-- `plain_parts::gap_at` meets its contract. Assumes nothing.
use native.Mathlib.Omega.{arith}
use Rattle.plain_parts.proofs.Ended.{gap}
use Rattle.plain_parts.proofs.gap_at.Goals as goal

-- src/lib.rt:206:1
pub returns-then-from-a : goal.returns-then-from-a
returns-then-from-a c = rw c.not_separator_from-a.ensures (gap c.args.s.now c.args.from (omega (arith, c.not_separator_from-a.ensures)))
