-- `records::put_points` meets its contract. Assumes nothing.
use mathlib.Core.Path.{refl, sym, ap, ◌∙◌}
use native.Mathlib.Omega.{arith}
use Rattle.output.proofs.Writing.{same}
use Rattle.records.specs.Put.{point_put, point_from, points_put}
use Rattle.map_json.proofs.Loops.{each_all, each_again, each-done}
use Rattle.records.proofs.put_points.Goals as goal

pub loop-k-init : goal.loop-k-init
loop-k-init c = (refl, each_all (point_from c.args.points.now) _ c.args.count)

pub loop-k-preserved : goal.loop-k-preserved
unfolding point_from
loop-k-preserved c =
    let l = c.loop-k in
    let a = c.args in
    (c.put_point-to.auto.out ∙ l.invariant.0, each_again (point_from a.points.now) _ _ l.k a.count (omega arith) (same (ap point_put c.point_at.ensures) c.put_point-to.ensures) ∙ l.invariant.1)

pub shape_of-out : goal.shape_of-out
shape_of-out c = c.loop-k.invariant.0

pub returns : goal.returns
unfolding points_put
returns c =
    let l = c.loop-k in
    let a = c.args in
    record { is = sym l.invariant.1 ∙ each-done (point_from a.points.now) _ l.k a.count (omega arith) }
