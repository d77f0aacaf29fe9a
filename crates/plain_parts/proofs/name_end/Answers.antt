-- `plain_parts::name_end` meets its contract. Assumes nothing.
use mathlib.Core.Path.{sym, ◌∙◌}
use native.Mathlib.Omega.{arith}
use Rattle.plain_parts.proofs.Names.{no_name, next-byte}
use Rattle.plain_parts.proofs.name_end.Goals as goal

pub loop-i-init : goal.loop-i-init
loop-i-init c = (no_name c.args.s.now c.args.from, omega arith)

pub loop-i-preserved : goal.loop-i-preserved
loop-i-preserved c =
    let a = c.args in
    (next-byte a.s.now a.from c.loop-i.i c.loop-i.invariant.0 (omega arith) (sym c.is_name_byte.ensures ∙ c.if-not-is_name_byte.false), omega arith)
