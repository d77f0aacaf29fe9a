-- `search::below` meets its contract. Assumes nothing.
use mathlib.Core.Path.{◌≡◌, ap}
use Prim.Native.Nat.{ℕ, ◌-◌}
use native.Mathlib.Omega.{arith}
use lib.ListN.{get_or}
use Rattle.search.proofs.Steps.{below-some, below_none}
use Rattle.search.proofs.below.Goals as goal

-- src/lib.rt:145:9
pub returns-then-link-lt2 : goal.returns-then-link-lt2
returns-then-link-lt2 c =
    let a = c.args in
    let e = c.word-link.ensures in
    let t = c.if-link-lt2.true in
    let z : 0 ≡ get_or a.work.now a.at 0 - 2 = omega arith in
    below-some a.work.now a.at 0 z (omega arith)

-- src/lib.rt:140:1
pub returns-then-under-work : goal.returns-then-under-work
returns-then-under-work c =
    let a = c.args in
    below-some a.work.now a.at (c.word-link.result - 2) (ap (λ (x : ℕ). x - 2) c.word-link.ensures) c.if-under-work.true

-- src/lib.rt:140:1
pub returns-else-under-work : goal.returns-else-under-work
returns-else-under-work c =
    let a = c.args in
    below_none a.work.now a.at (c.word-link.result - 2) (ap (λ (x : ℕ). x - 2) c.word-link.ensures) c.if-under-work.false
