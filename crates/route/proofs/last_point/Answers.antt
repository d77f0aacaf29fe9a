-- `route::last_point` meets its contract: behind the end of an empty route stands 0. Assumes nothing.
use mathlib.Core.Path.{sym}
use Prim.Native.Nat.{◌-◌, ◌≤◌}
use native.Mathlib.Omega.{arith}
use lib.ListN.{length, get_or-eq_default}
use Rattle.route.proofs.last_point.Goals as goal

pub returns-then-route-eq0 : goal.returns-then-route-eq0
returns-then-route-eq0 c = let e = c.if-route-eq0.true in let h : length c.args.route.now ≤ length c.args.route.now - 1 = omega arith in sym (get_or-eq_default c.args.route.now 0 h)
