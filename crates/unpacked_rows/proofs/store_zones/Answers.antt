-- `unpacked_rows::store_zones` meets its contract. Assumes nothing.
use Rattle.rows.specs.declared.ZoneRow.{ZoneRow}
use Rattle.unpacked_rows.proofs.Storing.{stored-all, stored-again, stored-done}
use Rattle.unpacked_rows.specs.Told.{zone_told_of, behind_zone_of}
use Rattle.rows.specs.Lay.{put_row_of}
use Rattle.rows.specs.Strides.{zone_stride}
use Rattle.rows.specs.Columns.{zone_words_of}
use native.Mathlib.Omega.{arith}
use mathlib.Core.Path.{refl, sym, ap, ◌∙◌}
use Rattle.unpacked_rows.proofs.store_zones.Goals as goal

pub loop-k-init : goal.loop-k-init
loop-k-init c = (refl, stored-all zone_stride zone_words_of zone_told_of behind_zone_of c.args.bytes.now _ _ c.args.count)

pub loop-k-preserved : goal.loop-k-preserved
loop-k-preserved c =
    let l = c.loop-k in
    let a = c.args in (
      c.store_zone.auto.t ∙ l.invariant.0,
      stored-again zone_stride zone_words_of zone_told_of behind_zone_of a.bytes.now l.zones _ l.at _ l.k a.count (omega arith) (c.store_zone.ensures ∙ ap (λ (r : ZoneRow). put_row_of zone_stride l.zones l.k (zone_words_of r)) c.zone_told.ensures) c.behind_zone-at.ensures ∙ l.invariant.1,
    )

pub shape_of-zones : goal.shape_of-zones
shape_of-zones c = c.loop-k.invariant.0

pub returns : goal.returns
returns c =
    let l = c.loop-k in
    let a = c.args in
    sym (stored-done zone_stride zone_words_of zone_told_of behind_zone_of a.bytes.now l.zones l.at l.k a.count (omega arith)) ∙ l.invariant.1
