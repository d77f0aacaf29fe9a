use mathlib.Core.Path.{◌≡◌}
use Prim.Native.Nat.{◌+◌, ◌-◌, ◌≤◌}
use lib.ListN.{length}
use Rattle.find_line.specs.FoundLines.{most, mdf_line_kind_of, mdf_line_in}
use Rattle.find_line.proofs.Counting.{rest}
use Rattle.find_line.proofs.mdf_line.Given as goal

abbrev pub invariant-loop-from : goal.invariant-loop-from
invariant-loop-from l = (l.from ≤ length l.text + 1) × (l.line ≤ l.from + 1) × (l.seen.count ≤ l.line) × ((rest mdf_line_kind_of l.kind l.row l.text l.seen l.from l.line).line ≡ mdf_line_in l.text l.kind l.row) × (length l.text ≤ most)

abbrev pub decreases-loop-from : goal.decreases-loop-from
decreases-loop-from l = length l.text + 1 - l.from
