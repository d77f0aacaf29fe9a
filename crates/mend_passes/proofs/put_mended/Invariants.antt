use mathlib.Core.Path.{◌≡◌}
use Prim.Native.Nat.{◌+◌, ◌-◌}
use lib.ListN.{length, drop}
use Rattle.line.specs.Lines.{lines_of}
use Rattle.output.specs.Pen.{pen, put}
use Rattle.mend_lines.specs.Forward.{none_before_of}
use Rattle.mend_pieces.specs.Pieces.{mended_bytes}
use Rattle.mend_passes.proofs.put_mended.Given as goal

abbrev pub invariant-loop-from : goal.invariant-loop-from
invariant-loop-from l = (length l.out ≡ length l.initial.out) × (put (pen l.out l.at) (mended_bytes l.before (drop l.from l.text) (lines_of (drop l.from l.text))) ≡ put (pen l.initial.out 0) (mended_bytes none_before_of l.text (lines_of l.text)))

abbrev pub decreases-loop-from : goal.decreases-loop-from
decreases-loop-from l = length l.text + 1 - l.from
