-- A line begins no later than the place that is looked at.
use Rattle.std.proofs.Common.{◌≤◌}
use Rattle.word_vectors.proofs.show_lines.Given as goal

abbrev pub invariant-loop-i : goal.invariant-loop-i
invariant-loop-i g l = l.from ≤ l.i
