use mathlib.Core.Path.{◌≡◌}
use Prim.Native.Nat.{◌+◌, ◌-◌, ◌≤◌}
use lib.ListN.{length, drop}
use Rattle.line.specs.Lines.{lines_of}
use Rattle.rows.specs.Table.{put_rows}
use Rattle.mend_lines.specs.Forward.{none_before_of}
use Rattle.mend_pieces.specs.Pieces.{changed_rows}
use Rattle.mend_passes.specs.Passes.{list_row}
use Rattle.mend_passes.proofs.list_changes.Given as goal

abbrev pub invariant-loop-from : goal.invariant-loop-from
invariant-loop-from l = (length l.list ≡ length l.initial.list) × (l.rows ≤ l.from) × (l.line ≤ l.from + 1) × (put_rows 2 list_row l.list l.rows (changed_rows l.line l.before (lines_of (drop l.from l.text))) ≡ put_rows 2 list_row l.initial.list 0 (changed_rows 1 none_before_of (lines_of l.text))) × (l.rows + length (changed_rows l.line l.before (lines_of (drop l.from l.text))) ≡ length (changed_rows 1 none_before_of (lines_of l.text)))

abbrev pub decreases-loop-from : goal.decreases-loop-from
decreases-loop-from l = length l.text + 1 - l.from
