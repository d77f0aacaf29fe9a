use mathlib.Core.Path.{◌≡◌}
use Prim.Native.Nat.{◌+◌, ◌-◌}
use lib.ListN.{length, take, drop}
use Rattle.line.specs.Lines.{lines_of}
use Rattle.marks.specs.Marks.{mark_all}
use Rattle.expected_references.specs.Named.{limit_ids}
use Rattle.expected_references.proofs.mark_limits.Given as goal

abbrev pub invariant-loop-from : goal.invariant-loop-from
invariant-loop-from l = mark_all l.marks (limit_ids (take (l.left - 1) (lines_of (drop l.from l.mdf)))) ≡ mark_all l.initial.marks (limit_ids (take (l.line - 1) (lines_of l.mdf)))

abbrev pub decreases-loop-from : goal.decreases-loop-from
decreases-loop-from l = length l.mdf + 1 - l.from
