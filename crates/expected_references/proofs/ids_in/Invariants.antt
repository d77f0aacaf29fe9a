use mathlib.Core.Path.{◌≡◌}
use Prim.Native.Nat.{◌+◌, ◌-◌}
use lib.ListN.{length, drop}
use Rattle.line.specs.Lines.{lines_of}
use Rattle.expected_references.specs.Named.{parts_behind, ids_in}
use Rattle.expected_references.proofs.ids_in.Given as goal

abbrev pub invariant-loop-from : goal.invariant-loop-from
invariant-loop-from l = parts_behind l.count (lines_of (drop l.from l.rndf)) ≡ ids_in l.rndf

abbrev pub decreases-loop-from : goal.decreases-loop-from
decreases-loop-from l = length l.rndf + 1 - l.from
