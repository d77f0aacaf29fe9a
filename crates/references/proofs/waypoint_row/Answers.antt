-- `references::waypoint_row` meets its contract. Assumes nothing.
use mathlib.Core.Path.{◌∙◌}
use borrow.Author.Tests.{le-ltb}
use Rattle.references.proofs.Finds.{lane-there, no-lane-there}
use Rattle.references.proofs.waypoint_row.Goals as goal

pub returns-then-e-segment : goal.returns-then-e-segment
returns-then-e-segment c =
    let a = c.args in
    let e = a.e in
    c.in_part.ensures ∙ lane-there a.segments.now a.lanes.now e.x e.y e.z c.before-then-e-gt0.result c.segment_at-segment.result c.before-then-e-gt0.ensures c.segment_at-segment.ensures c.if-e-gt0.true c.before-then-e-segment.result c.lane_at-lane.result c.before-then-e-segment.ensures c.lane_at-lane.ensures c.if-e-segment.true

pub returns-else-e-segment : goal.returns-else-e-segment
returns-else-e-segment c =
    let a = c.args in
    let e = a.e in
    no-lane-there a.segments.now a.lanes.now e.x e.y e.z c.before-then-e-gt0.result c.segment_at-segment.result c.before-then-e-gt0.ensures c.segment_at-segment.ensures c.if-e-gt0.true c.if-e-segment.false

pub returns-else-e-gt0 : goal.returns-else-e-gt0
returns-else-e-gt0 c = rw (le-ltb 0 _ c.if-e-gt0.false)
