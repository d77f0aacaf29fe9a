-- `features::part_end` meets its contract. Assumes nothing.
use mathlib.Core.Path.{◌≡◌, sym, subst, ◌∙◌}
use Prim.Native.Nat.{◌≤◌, ◌<◌}
use native.Mathlib.Omega.{arith}
use Rattle.rows.specs.declared.CheckpointRow.{CheckpointRow}
use Rattle.features.proofs.Loops.{end-here, end-further, end-last}
use Rattle.features.proofs.part_end.Goals as goal

pub returns-then-behind-checkpoint_at : goal.returns-then-behind-checkpoint_at
returns-then-behind-checkpoint_at c =
    let l = c.loop-row in
    let a = c.args in
    sym (sym l.invariant.0 ∙ end-here a.checkpoints.now a.behind l.row a.count (omega arith) (subst (λ (q : CheckpointRow). a.behind ≤ q.point) c.checkpoint_at.ensures c.if-behind-checkpoint_at.true))

pub loop-row-preserved : goal.loop-row-preserved
loop-row-preserved c =
    let l = c.loop-row in
    let a = c.args in
    let less : c.checkpoint_at.result.point < a.behind = omega (arith, c.if-behind-checkpoint_at.false) in
    (end-further a.checkpoints.now a.behind l.row a.count (omega arith) (subst (λ (q : CheckpointRow). q.point < a.behind) c.checkpoint_at.ensures less) ∙ l.invariant.0, omega arith)

pub returns : goal.returns
returns c =
    let l = c.loop-row in
    let a = c.args in
    let end : c.max.result ≡ l.row = omega (arith, c.max.ensures, l.invariant.1, l.auto.row) in
    end ∙ sym (sym l.invariant.0 ∙ end-last a.checkpoints.now a.behind l.row a.count (omega arith))
