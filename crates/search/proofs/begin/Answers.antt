-- `search::begin` meets its contract. Assumes nothing.
use mathlib.Core.Path.{sym, ap, ◌∙◌}
use native.Mathlib.Omega.{arith}
use lib.ListN.{length}
use Rattle.search.specs.Search.{Marks, next_of, other_of}
use Rattle.search.proofs.Steps.{inside-first, all-long, all-top, begun-lane, begun-zone, begun-none}
use Rattle.search.proofs.begin.Goals as goal

-- src/lib.rt:207:9
pub reach_entries-requires : goal.reach_entries-requires
reach_entries-requires c =
    let a = c.args in
    let e = c.reach_next-top.ensures in
    let long = ap (λ (m : Marks). length m.words) e ∙ all-long a.lanes.now a.zones.now a.c (next_of c.lane_of-lane.result a.from) a.work.now 0 in
    let high = ap (λ (m : Marks). m.top) e in
    let most = all-top a.lanes.now a.zones.now a.c (next_of c.lane_of-lane.result a.from) a.work.now 0 (omega arith) in
    let b = c.requires.1 in
    (omega (arith, long, high, most), omega (arith, long, b))

-- src/lib.rt:207:9
pub returns-then-inside : goal.returns-then-inside
returns-then-inside c =
    let a = c.args in
    begun-lane a.lanes.now a.zones.now a.exits.now a.c a.work.now c.reach_next-top.new.work c.reach_entries.new.work a.from c.reach_next-top.result c.reach_entries.result c.lane_of-lane.result c.lane_of-lane.ensures
    (sym c.inside.ensures ∙ c.if-inside.true) c.reach_next-top.ensures c.reach_entries.ensures

-- src/lib.rt:211:13
pub reach_other-top-requires : goal.reach_other-top-requires
reach_other-top-requires c =
    let f = inside-first c.zone_of-zone.result c.args.from (sym c.inside-2.ensures ∙ c.if-inside-2.true) in
    let x = c.requires.0 in
    let y = c.requires.1 in
    (omega arith, omega arith)

-- src/lib.rt:212:9
pub reach_entries-requires-then-inside-2 : goal.reach_entries-requires-then-inside-2
reach_entries-requires-then-inside-2 c =
    let a = c.args in
    let e = c.reach_other-top.ensures in
    let long = ap (λ (m : Marks). length m.words) e ∙ all-long a.lanes.now a.zones.now a.c (other_of c.zone_of-zone.result a.from) a.work.now 0 in
    let high = ap (λ (m : Marks). m.top) e in
    let most = all-top a.lanes.now a.zones.now a.c (other_of c.zone_of-zone.result a.from) a.work.now 0 (omega arith) in
    let b = c.requires.1 in
    (omega (arith, long, high, most), omega (arith, long, b))

-- src/lib.rt:212:9
pub returns-then-inside-2 : goal.returns-then-inside-2
returns-then-inside-2 c =
    let a = c.args in
    begun-zone a.lanes.now a.zones.now a.exits.now a.c a.work.now c.reach_other-top.new.work c.reach_entries-then-inside-2.new.work a.from c.reach_other-top.result c.reach_entries-then-inside-2.result c.lane_of-lane.result c.zone_of-zone.result c.lane_of-lane.ensures
    (sym c.inside.ensures ∙ c.if-inside.false) c.zone_of-zone.ensures (sym c.inside-2.ensures ∙ c.if-inside-2.true) c.reach_other-top.ensures c.reach_entries-then-inside-2.ensures

-- src/lib.rt:199:1
pub returns : goal.returns
returns c =
    let a = c.args in
    begun-none a.lanes.now a.zones.now a.exits.now a.c a.work.now a.from c.lane_of-lane.result c.zone_of-zone.result c.lane_of-lane.ensures (sym c.inside.ensures ∙ c.if-inside.false) c.zone_of-zone.ensures (sym c.inside-2.ensures ∙ c.if-inside-2.false)
