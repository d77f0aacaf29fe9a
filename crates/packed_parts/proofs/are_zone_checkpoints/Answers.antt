-- `packed_parts::are_zone_checkpoints` meets its contract. The invariant: the zones that are left say the whole; no place is too large. Assumes nothing.
use mathlib.Core.Path.{sym}
use Prim.Native.Nat.{◌+◌, ◌/◌, ◌≤◌, max}
use native.Mathlib.Omega.{arith}
use Rattle.packed_parts.proofs.PartLaws.{marked-fits, again-checkpoints, stopped-checkpoints, ended-checkpoints}
use Rattle.packed_parts.proofs.are_zone_checkpoints.Goals as goal

pub returns-then-not-are_marked : goal.returns-then-not-are_marked
returns-then-not-are_marked c = grind (arith, stopped-checkpoints)

pub overflow_add-next : goal.overflow_add-next
overflow_add-next c =
    let m : c.loop.next + c.four_at-spots.result / 65536 ≤ max c.loop.next c.args.checkpoints.count = marked-fits _ _ _ _ _ (sym c.if-not-are_marked.ensures) in
    grind arith

pub loop-preserved : goal.loop-preserved
loop-preserved c = grind (arith, again-checkpoints)

pub returns : goal.returns
returns c = grind (arith, ended-checkpoints)
