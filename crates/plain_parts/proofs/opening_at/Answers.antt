-- `plain_parts::opening_at` meets its contract. Assumes nothing.
use Prim.Native.Nat.{◌-◌}
use native.Mathlib.Omega.{arith}
use lib.ListN.{length, drop, length-drop}
use lib.Seq.{take_all}
use Rattle.plain_parts.proofs.Ended.{opening}
use Rattle.plain_parts.proofs.opening_at.Goals as goal

pub returns-then-at-s : goal.returns-then-at-s
returns-then-at-s c =
    let s = c.args.s.now in
    let at = c.args.at in
    let rest = take_all (length s - at) (drop at s) (omega (arith, length-drop at s)) in
    opening s at c.starts_with.result c.if-at-s.true (rw rest at c.starts_with.ensures.bound) (rw rest at c.starts_with.ensures.value)
