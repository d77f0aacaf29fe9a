-- `map_json::put_ring` meets its contract. Assumes nothing.
use mathlib.Core.Path.{refl, sym, ap, ◌∙◌}
use native.Mathlib.Omega.{arith}
use Rattle.terms.specs.Ascii.{ascii}
use Rattle.output.proofs.Writing.{same, ◌then◌}
use Rattle.map_json.specs.Json.{position_at, position_back, ring}
use Rattle.map_json.proofs.Loops.{each_all, each_again, each-done}
use Rattle.map_json.proofs.put_ring.Goals as goal

pub loop-k-init : goal.loop-k-init
loop-k-init c = (refl, refl, each_all (position_back c.args.points.now c.args.first c.args.count) _ c.args.count)

pub loop-k-preserved : goal.loop-k-preserved
unfolding position_back
loop-k-preserved c =
    let l = c.loop-k in
    let a = c.args in
    (refl, c.put_position-to.auto.out ∙ c.put_comma-a.auto.out ∙ l.invariant.1, each_again (position_back a.points.now a.first a.count) _ _ l.k a.count (omega arith) (c.put_comma-a.ensures then c.put_position-to.ensures) ∙ l.invariant.2)

pub shape_of-out : goal.shape_of-out
shape_of-out c = c.put_position.auto.out ∙ c.put_byte-b.auto.out ∙ c.loop-k.invariant.1

pub returns : goal.returns
unfolding ascii ring
returns c =
    let l = c.loop-k in
    let a = c.args in
    record { is = sym l.invariant.2 ∙ each-done (position_back a.points.now a.first a.count) _ l.k a.count (omega arith) } then c.put_byte-b.ensures then same (ap (position_at a.points.now) c.last_of.ensures) c.put_position.ensures
