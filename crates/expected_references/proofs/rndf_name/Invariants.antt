use mathlib.Core.Path.{◌≡◌}
use Prim.Native.Nat.{◌+◌, ◌-◌}
use lib.ListN.{length, drop}
use Rattle.line.specs.Lines.{lines_of}
use Rattle.expected_references.specs.Named.{name_on, name_in_of}
use Rattle.expected_references.proofs.rndf_name.Given as goal

abbrev pub invariant-loop-from : goal.invariant-loop-from
invariant-loop-from l = name_on (lines_of (drop l.from l.rndf)) ≡ name_in_of l.rndf

abbrev pub decreases-loop-from : goal.decreases-loop-from
decreases-loop-from l = length l.rndf + 1 - l.from
