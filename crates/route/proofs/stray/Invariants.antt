use mathlib.Core.Path.{◌≡◌}
use Prim.Native.Nat.{◌-◌, ◌≤◌}
use lib.ListN.{length}
use Rattle.moves.specs.Moves.{is_move}
use Rattle.route.specs.Judged.{stray}
use Rattle.route.proofs.stray.Given as goal

abbrev pub invariant-loop-place : goal.invariant-loop-place
invariant-loop-place l = (1 ≤ l.place) × (stray (is_move l.lanes l.zones l.exits l.c) l.route l.place (length l.route - l.place) ≡ stray (is_move l.lanes l.zones l.exits l.c) l.route 1 (length l.route - 1))

abbrev pub decreases-loop-place : goal.decreases-loop-place
decreases-loop-place l = length l.route - l.place
