-- `search::reach_next` meets its contract. Assumes nothing.
use mathlib.Core.Path.{sym, ◌∙◌}
use Rattle.search.specs.Search.{spread}
use Rattle.search.proofs.Steps.{next-reached, next-none}
use Rattle.search.proofs.reach_next.Goals as goal

-- src/lib.rt:174:1
pub returns-then-inside : goal.returns-then-inside
returns-then-inside c =
    let a = c.args in
    next-reached (spread a.lanes.now a.zones.now a.c) a.part a.from a.work.now c.reach.new.work c.reach.result (sym c.inside.ensures ∙ c.if-inside.true) c.reach.ensures

-- src/lib.rt:174:1
pub returns-else-inside : goal.returns-else-inside
returns-else-inside c =
    let a = c.args in
    next-none (spread a.lanes.now a.zones.now a.c) a.part a.from a.work.now (sym c.inside.ensures ∙ c.if-inside.false)
