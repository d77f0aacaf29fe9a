-- The place is within the text, or one behind it, and there are no more lines than bytes.
use Rattle.std.proofs.Common.{length, ◌-◌, ◌+◌, ◌≤◌}
use Rattle.line_vectors.proofs.put_lines.Given as goal

abbrev pub invariant-loop-from : goal.invariant-loop-from
invariant-loop-from g l = (l.from ≤ length l.text + 1) × (l.number ≤ l.from)

abbrev pub decreases-loop-from : goal.decreases-loop-from
decreases-loop-from g l = length l.text + 1 - l.from
