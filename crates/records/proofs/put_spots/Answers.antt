-- `records::put_spots` meets its contract. Assumes nothing.
use mathlib.Core.Path.{refl, sym, ap, ◌∙◌}
use native.Mathlib.Omega.{arith}
use Rattle.output.proofs.Writing.{same}
use Rattle.records.specs.Put.{spot_put, spot_from, spots_put}
use Rattle.map_json.proofs.Loops.{each_all, each_again, each-done}
use Rattle.records.proofs.put_spots.Goals as goal

pub loop-k-init : goal.loop-k-init
loop-k-init c = (refl, each_all (spot_from c.args.spots.now) _ c.args.count)

pub loop-k-preserved : goal.loop-k-preserved
unfolding spot_from
loop-k-preserved c =
    let l = c.loop-k in
    let a = c.args in
    (c.put_spot-to.auto.out ∙ l.invariant.0, each_again (spot_from a.spots.now) _ _ l.k a.count (omega arith) (same (ap spot_put c.spot_at.ensures) c.put_spot-to.ensures) ∙ l.invariant.1)

pub shape_of-out : goal.shape_of-out
shape_of-out c = c.loop-k.invariant.0

pub returns : goal.returns
unfolding spots_put
returns c =
    let l = c.loop-k in
    let a = c.args in
    record { is = sym l.invariant.1 ∙ each-done (spot_from a.spots.now) _ l.k a.count (omega arith) }
