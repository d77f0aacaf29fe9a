use mathlib.Core.Path.{◌≡◌}
use Prim.Native.Nat.{◌-◌}
use lib.ListN.{length}
use Rattle.output.specs.Pen.{pen, put}
use Rattle.features.specs.Drawn.{each, checkpoint_from}
use Rattle.features.proofs.put_part.Given as goal

abbrev pub invariant-loop-row : goal.invariant-loop-row
invariant-loop-row l = (length l.out ≡ length l.initial.out) × (put (pen l.out l.to) (each (checkpoint_from l.points l.checkpoints l.m l.n l.first) l.row (l.end - l.row)) ≡ put (pen l.initial.out l.at) (each (checkpoint_from l.points l.checkpoints l.m l.n l.first) l.next ((l.end - l.next))))

abbrev pub decreases-loop-row : goal.decreases-loop-row
decreases-loop-row l = l.end - l.row
