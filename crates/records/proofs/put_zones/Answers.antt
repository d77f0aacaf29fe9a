-- `records::put_zones` meets its contract. Assumes nothing.
use mathlib.Core.Path.{refl, sym, ap, ◌∙◌}
use native.Mathlib.Omega.{arith}
use Rattle.output.proofs.Writing.{same}
use Rattle.records.specs.Put.{zone_put, zone_from, zones_put}
use Rattle.map_json.proofs.Loops.{each_all, each_again, each-done}
use Rattle.records.proofs.put_zones.Goals as goal

pub loop-k-init : goal.loop-k-init
loop-k-init c = (refl, each_all (zone_from c.args.text.now c.args.zones.now) _ c.args.count)

pub loop-k-preserved : goal.loop-k-preserved
unfolding zone_from
loop-k-preserved c =
    let l = c.loop-k in
    let a = c.args in
    (c.put_zone-to.auto.out ∙ l.invariant.0, each_again (zone_from a.text.now a.zones.now) _ _ l.k a.count (omega arith) (same (ap (zone_put a.text.now) c.zone_at.ensures) c.put_zone-to.ensures) ∙ l.invariant.1)

pub shape_of-out : goal.shape_of-out
shape_of-out c = c.loop-k.invariant.0

pub returns : goal.returns
unfolding zones_put
returns c =
    let l = c.loop-k in
    let a = c.args in
    record { is = sym l.invariant.1 ∙ each-done (zone_from a.text.now a.zones.now) _ l.k a.count (omega arith) }
