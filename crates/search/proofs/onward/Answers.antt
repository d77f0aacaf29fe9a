-- `search::onward` meets its contract. Assumes nothing.
use mathlib.Core.Path.{refl, sym, ◌∙◌}
use Prim.Native.Nat.{◌-◌}
use native.Mathlib.Omega.{arith}
use Rattle.search.proofs.Steps.{below-most, popped-lane, popped-zone, popped-none}
use Rattle.search.proofs.onward.Goals as goal

-- src/lib.rt:162:9
pub reach_entries-requires : goal.reach_entries-requires
reach_entries-requires c =
    let s = c in
    let m = below-most s.args.work.now (s.args.top - 1) in
    let e = c.below-under.ensures in
    (omega arith, s.requires.2)

-- src/lib.rt:162:9
pub returns-then-inside : goal.returns-then-inside
returns-then-inside c =
    let s = c in
    let a = s.args in
    popped-lane a.lanes.now a.zones.now a.exits.now a.c a.work.now c.reach_entries.new.work (a.top - 1) c.reach_entries.result a.top c.below-under.result c.lane_of-lane.result refl s.requires.0 c.below-under.ensures c.lane_of-lane.ensures
    (sym c.inside.ensures ∙ c.if-inside.true) c.reach_entries.ensures

-- src/lib.rt:168:9
pub reach_entries-requires-then-inside-2 : goal.reach_entries-requires-then-inside-2
reach_entries-requires-then-inside-2 c =
    let s = c in
    let m = below-most s.args.work.now (s.args.top - 1) in
    let e = c.below-under.ensures in
    (omega arith, s.requires.2)

-- src/lib.rt:168:9
pub returns-then-inside-2 : goal.returns-then-inside-2
returns-then-inside-2 c =
    let s = c in
    let a = s.args in
    popped-zone a.lanes.now a.zones.now a.exits.now a.c a.work.now c.reach_entries-then-inside-2.new.work (a.top - 1) c.reach_entries-then-inside-2.result a.top c.below-under.result c.lane_of-lane.result c.zone_of-zone.result refl s.requires.0 c.below-under.ensures c.lane_of-lane.ensures
    (sym c.inside.ensures ∙ c.if-inside.false) c.zone_of-zone.ensures (sym c.inside-2.ensures ∙ c.if-inside-2.true) c.reach_entries-then-inside-2.ensures

-- src/lib.rt:152:1
pub returns : goal.returns
returns c =
    let s = c in
    let a = s.args in
    popped-none a.lanes.now a.zones.now a.exits.now a.c a.work.now (a.top - 1) a.top c.below-under.result c.lane_of-lane.result c.zone_of-zone.result refl s.requires.0 c.below-under.ensures c.lane_of-lane.ensures
    (sym c.inside.ensures ∙ c.if-inside.false) c.zone_of-zone.ensures (sym c.inside-2.ensures ∙ c.if-inside-2.false)
