-- `search::spread` meets its contract. Assumes nothing.
use mathlib.Core.Path.{sym, ◌∙◌}
use Rattle.search.proofs.Steps.{spread-lane, spread-zone, spread_none}
use Rattle.search.proofs.spread.Goals as goal

-- src/lib.rt:48:9
pub returns-then-inside : goal.returns-then-inside
returns-then-inside c =
    let a = c.args in
    spread-lane a.lanes.now a.zones.now a.c a.work.now a.b c.lane_of-lane.result c.run.new.work c.lane_of-lane.ensures (sym c.inside.ensures ∙ c.if-inside.true) c.run.ensures

-- src/lib.rt:41:1
pub returns-then-inside-2 : goal.returns-then-inside-2
returns-then-inside-2 c =
    let a = c.args in
    spread-zone a.lanes.now a.zones.now a.c a.work.now a.b c.lane_of-lane.result c.zone_of-zone.result c.run-then-inside-2.new.work c.run-then-inside-2-2.new.work c.lane_of-lane.ensures (sym c.inside.ensures ∙ c.if-inside.false) c.zone_of-zone.ensures (sym c.inside-2.ensures ∙ c.if-inside-2.true) c.run-then-inside-2.ensures c.run-then-inside-2-2.ensures

-- src/lib.rt:41:1
pub returns-else-inside-2 : goal.returns-else-inside-2
returns-else-inside-2 c =
    let a = c.args in
    spread_none a.lanes.now a.zones.now a.c a.work.now a.b c.lane_of-lane.result c.zone_of-zone.result c.lane_of-lane.ensures (sym c.inside.ensures ∙ c.if-inside.false) c.zone_of-zone.ensures (sym c.inside-2.ensures ∙ c.if-inside-2.false)
