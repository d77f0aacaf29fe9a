-- `yard_reach::spot_row` meets its contract. Assumes nothing.
use Rattle.std.proofs.Common.{◌∙◌}
use borrow.Author.Tests.{le-ltb}
use Rattle.yard_reach.proofs.Found.{spot-there, no-spot-there}
use Rattle.yard_reach.proofs.spot_row.Goals as goal

pub returns-then-e-zone : goal.returns-then-e-zone
returns-then-e-zone c =
    let a = c.args in
    c.spot_point.ensures
    ∙ spot-there a.zones.now a.spots.now a.segment_count a.e.x a.e.y a.e.z c.before-then-segment_count-e.result c.zone_at-zone.result c.before-then-segment_count-e.ensures c.zone_at-zone.ensures c.if-segment_count-e.true c.before-then-e-zone.result c.spot_at-spot.result c.before-then-e-zone.ensures c.spot_at-spot.ensures c.if-e-zone.true

pub returns-else-e-zone : goal.returns-else-e-zone
returns-else-e-zone c =
    let a = c.args in
    no-spot-there a.zones.now a.spots.now a.segment_count a.e.x a.e.y a.e.z c.before-then-segment_count-e.result c.zone_at-zone.result c.before-then-segment_count-e.ensures c.zone_at-zone.ensures c.if-segment_count-e.true c.if-e-zone.false

pub returns-else-segment_count-e : goal.returns-else-segment_count-e
returns-else-segment_count-e c = rw (le-ltb _ _ c.if-segment_count-e.false)
