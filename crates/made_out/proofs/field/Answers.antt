-- `made_out::field` meets its contract. Assumes nothing.
use mathlib.Core.Path.{sym}
use native.Mathlib.Omega.{arith}
use Rattle.made_out.proofs.Whole.{to_end, behind-end, empty-stretch}
use Rattle.made_out.proofs.field.Goals.{then-a-e+else-e-s+else-a-s, else-a-e}
use Rattle.made_out.proofs.field.Goals as goal

pub returns-then-a-s : goal.returns-then-a-s
returns-then-a-s c =
    let a = c.args in
    to_end a.s.now a.f (omega (arith, c.if-e-s.false))

pub returns : goal.returns
returns c =
    let a = c.args in
    elim c.if-a-e.branch [ then-a-e+else-e-s+else-a-s w ↦ sym (behind-end a.s.now a.f w.if-a-s.false) | else-a-e w ↦ sym (empty-stretch a.s.now a.f w.if-a-e.false) ]
