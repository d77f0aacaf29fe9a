use mathlib.Core.Path.{◌≡◌}
use Prim.Native.Nat.{◌+◌, ◌-◌, ◌≤◌}
use lib.ListN.{length, drop}
use Rattle.line.specs.Lines.{lines_of}
use Rattle.grammar.specs.PlaceTable.{rndf_table_of}
use Rattle.edition.specs.Editions.{inner}
use Rattle.refusal.specs.Size.{most}
use Rattle.place.specs.Step.{first_place}
use Rattle.progress.specs.After.{no_progress, total}
use Rattle.mend_lines.specs.Forward.{none_before_of}
use Rattle.mend_tests.specs.Tests.{few}
use Rattle.mend_walk.specs.Walking.{mended_walk}
use Rattle.mend_walk.proofs.walk_mended.Given as goal

abbrev pub invariant-loop-from : goal.invariant-loop-from
invariant-loop-from l =
    (length l.text ≤ most) × (l.table ≡ rndf_table_of) × (l.line ≤ l.from + 1) × (total l.gained ≤ l.from) × (length l.segments ≡ length l.initial.segments) × (length l.lanes ≡ length l.initial.lanes) × (length l.zones ≡ length l.initial.zones) × (length l.checkpoints ≡ length l.initial.checkpoints) × (mended_walk (inner l.edition) l.before l.place (few l.gained l.segments l.lanes l.zones l.checkpoints) l.from l.line (lines_of (drop l.from l.text)) ≡ mended_walk (inner l.edition) none_before_of first_place (few no_progress l.initial.segments l.initial.lanes l.initial.zones l.initial.checkpoints) 0 1 (lines_of l.text))

abbrev pub decreases-loop-from : goal.decreases-loop-from
decreases-loop-from l =
    length l.text + 1 - l.from
