-- `plain_parts::return_end` meets its contract. Assumes nothing.
use mathlib.Core.Logic.{inl, inr}
use native.Mathlib.Omega.{arith}
use Rattle.plain_parts.proofs.Ended.{ends-behind}
use Rattle.plain_parts.proofs.return_end.Goals as goal
use Rattle.plain_parts.proofs.return_end.Goals.{else-e-s-via-then-e-s+else-s-e-ne-LF, else-e-s-via-else-e-s}

pub returns-else-e-s : goal.returns-else-e-s
returns-else-e-s c =
    let a = c.args in
    ends-behind a.s.now a.from c.requires.0 c.requires.1 (elim c.else-e-s.branch [ else-e-s-via-then-e-s+else-s-e-ne-LF w ↦ inr w.if-s-e-ne-LF.false | else-e-s-via-else-e-s w ↦ inl (omega (arith, w.if-e-s.false, c.requires.0)) ])
