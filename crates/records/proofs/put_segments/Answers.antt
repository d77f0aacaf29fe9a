-- `records::put_segments` meets its contract. Assumes nothing.
use mathlib.Core.Path.{refl, sym, ap, ◌∙◌}
use native.Mathlib.Omega.{arith}
use Rattle.output.proofs.Writing.{same}
use Rattle.records.specs.Put.{segment_put, segment_from, segments_put}
use Rattle.map_json.proofs.Loops.{each_all, each_again, each-done}
use Rattle.records.proofs.put_segments.Goals as goal

pub loop-k-init : goal.loop-k-init
loop-k-init c = (refl, each_all (segment_from c.args.text.now c.args.segments.now) _ c.args.count)

pub loop-k-preserved : goal.loop-k-preserved
unfolding segment_from
loop-k-preserved c =
    let l = c.loop-k in
    let a = c.args in
    (c.put_segment-to.auto.out ∙ l.invariant.0, each_again (segment_from a.text.now a.segments.now) _ _ l.k a.count (omega arith) (same (ap (segment_put a.text.now) c.segment_at.ensures) c.put_segment-to.ensures) ∙ l.invariant.1)

pub shape_of-out : goal.shape_of-out
shape_of-out c = c.loop-k.invariant.0

pub returns : goal.returns
unfolding segments_put
returns c =
    let l = c.loop-k in
    let a = c.args in
    record { is = sym l.invariant.1 ∙ each-done (segment_from a.text.now a.segments.now) _ l.k a.count (omega arith) }
