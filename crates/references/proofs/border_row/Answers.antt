-- `references::border_row` meets its contract. Assumes nothing.
use mathlib.Core.Path.{◌∙◌}
use borrow.Author.Tests.{le-ltb}
use Rattle.references.proofs.Finds.{zone-there}
use Rattle.references.proofs.border_row.Goals as goal

pub returns-then-segment_count-e : goal.returns-then-segment_count-e
returns-then-segment_count-e c =
    let a = c.args in
    c.in_part.ensures ∙ zone-there a.zones.now a.segment_count a.e.x a.e.z c.before-then-segment_count-e.result c.zone_at-zone.result c.before-then-segment_count-e.ensures c.zone_at-zone.ensures c.if-segment_count-e.true

pub returns-else-segment_count-e : goal.returns-else-segment_count-e
returns-else-segment_count-e c = rw (le-ltb _ _ c.if-segment_count-e.false)
