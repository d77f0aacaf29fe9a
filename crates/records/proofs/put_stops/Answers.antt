-- `records::put_stops` meets its contract. Assumes nothing.
use mathlib.Core.Path.{refl, sym, ap, ◌∙◌}
use native.Mathlib.Omega.{arith}
use Rattle.output.proofs.Writing.{same}
use Rattle.records.specs.Put.{stop_put, stop_from, stops_put}
use Rattle.map_json.proofs.Loops.{each_all, each_again, each-done}
use Rattle.records.proofs.put_stops.Goals as goal

pub loop-k-init : goal.loop-k-init
loop-k-init c = (refl, each_all (stop_from c.args.stops.now) _ c.args.count)

pub loop-k-preserved : goal.loop-k-preserved
unfolding stop_from
loop-k-preserved c =
    let l = c.loop-k in
    let a = c.args in
    (c.put_stop-to.auto.out ∙ l.invariant.0, each_again (stop_from a.stops.now) _ _ l.k a.count (omega arith) (same (ap stop_put c.stop_at.ensures) c.put_stop-to.ensures) ∙ l.invariant.1)

pub shape_of-out : goal.shape_of-out
shape_of-out c = c.loop-k.invariant.0

pub returns : goal.returns
unfolding stops_put
returns c =
    let l = c.loop-k in
    let a = c.args in
    record { is = sym l.invariant.1 ∙ each-done (stop_from a.stops.now) _ l.k a.count (omega arith) }
