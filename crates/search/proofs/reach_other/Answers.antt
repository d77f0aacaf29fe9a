-- `search::reach_other` meets its contract. Assumes nothing.
use Rattle.search.specs.Search.{spread}
use Rattle.search.proofs.Steps.{other-next, other-first}
use Rattle.search.proofs.reach_other.Goals as goal

-- src/lib.rt:193:9
pub returns-then-from-first : goal.returns-then-from-first
returns-then-from-first c =
    let a = c.args in
    other-next (spread a.lanes.now a.zones.now a.c) a.part a.from a.work.now c.reach_next.new.work c.reach_next.result c.if-from-first.true c.reach_next.ensures

-- src/lib.rt:187:1
pub returns : goal.returns
returns c =
    let a = c.args in
    other-first (spread a.lanes.now a.zones.now a.c) a.part a.from a.work.now c.reach.new.work c.reach.result c.if-from-first.false c.reach.ensures
