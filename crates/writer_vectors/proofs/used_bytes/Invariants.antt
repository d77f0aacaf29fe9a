-- No more are used than were looked at.
use Rattle.std.proofs.Common.{◌≤◌}
use Rattle.writer_vectors.proofs.used_bytes.Given as goal

abbrev pub invariant-loop-i : goal.invariant-loop-i
invariant-loop-i l = l.used ≤ l.i
