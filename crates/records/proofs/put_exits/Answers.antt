-- `records::put_exits` meets its contract. Assumes nothing.
use mathlib.Core.Path.{refl, sym, ap, ◌∙◌}
use native.Mathlib.Omega.{arith}
use Rattle.output.proofs.Writing.{same}
use Rattle.records.specs.Put.{exit_put, exit_from, exits_put}
use Rattle.map_json.proofs.Loops.{each_all, each_again, each-done}
use Rattle.records.proofs.put_exits.Goals as goal

pub loop-k-init : goal.loop-k-init
loop-k-init c = (refl, each_all (exit_from c.args.exits.now) _ c.args.count)

pub loop-k-preserved : goal.loop-k-preserved
unfolding exit_from
loop-k-preserved c =
    let l = c.loop-k in
    let a = c.args in
    (c.put_exit-to.auto.out ∙ l.invariant.0, each_again (exit_from a.exits.now) _ _ l.k a.count (omega arith) (same (ap exit_put c.exit_at.ensures) c.put_exit-to.ensures) ∙ l.invariant.1)

pub shape_of-out : goal.shape_of-out
shape_of-out c = c.loop-k.invariant.0

pub returns : goal.returns
unfolding exits_put
returns c =
    let l = c.loop-k in
    let a = c.args in
    record { is = sym l.invariant.1 ∙ each-done (exit_from a.exits.now) _ l.k a.count (omega arith) }
