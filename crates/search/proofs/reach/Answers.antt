-- `search::reach` meets its contract. Assumes nothing.
use mathlib.Core.Path.{sym, ◌∙◌, ◌≡◌}
use Prim.Native.Nat.{ℕ, ◌+◌}
use native.Mathlib.Omega.{arith}
use lib.ListN.{length-set}
use Rattle.search.proofs.Steps.{any-default, past_end, reached_new, reached-old}
use Rattle.search.proofs.reach.Goals as goal

-- src/lib.rt:64:9
pub returns-then-work-at : goal.returns-then-work-at
returns-then-work-at c =
    let a = c.args in
    reached-old a.lanes.now a.zones.now a.c a.work.now a.top a.b (λ e. let z : ◌≡◌ {A = ℕ} 1 0 = sym (past_end a.work.now a.b 1 c.if-work-at.true) ∙ e in omega arith)

-- src/lib.rt:67:9
pub returns-then-work-at-ne0 : goal.returns-then-work-at-ne0
returns-then-work-at-ne0 c =
    let a = c.args in
    reached-old a.lanes.now a.zones.now a.c a.work.now a.top a.b (λ e. c.if-work-at-ne0.true (any-default a.work.now a.b 0 1 c.if-work-at.false ∙ e))

-- src/lib.rt:58:1
pub shape_of-work : goal.shape_of-work
shape_of-work c =
    let a = c.args in
    (c.spread.auto.work ∙ length-set a.work.now a.b (a.top + 2))

-- src/lib.rt:58:1
pub returns : goal.returns
returns c =
    let a = c.args in
    reached_new a.lanes.now a.zones.now a.c a.work.now a.top a.b c.spread.new.work (any-default a.work.now a.b 1 0 c.if-work-at.false ∙ c.if-work-at-ne0.false) c.spread.ensures
