use mathlib.Core.Path.{◌≡◌}
use Prim.Native.Nat.{◌+◌, ◌-◌}
use lib.ListN.{length, drop}
use Rattle.line.specs.Lines.{lines_of}
use Rattle.references.specs.Finding.{look_in}
use Rattle.mend_lines.specs.Forward.{none_before_of}
use Rattle.mend_passes.specs.Passes.{are_exits_right_of}
use Rattle.mend_passes.proofs.are_exits_right.Given as goal

abbrev pub invariant-loop-from : goal.invariant-loop-from
invariant-loop-from l = are_exits_right_of (look_in l.segments l.lanes l.zones) l.segment_count l.before (lines_of (drop l.from l.text)) ≡ are_exits_right_of (look_in l.segments l.lanes l.zones) l.segment_count none_before_of (lines_of l.text)

abbrev pub decreases-loop-from : goal.decreases-loop-from
decreases-loop-from l = length l.text + 1 - l.from
