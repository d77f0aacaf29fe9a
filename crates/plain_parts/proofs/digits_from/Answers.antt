-- `plain_parts::digits_from` meets its contract: what was passed spells v. Assumes nothing.
use mathlib.Core.Path.{sym, ◌∙◌}
use native.Mathlib.Omega.{arith}
use lib.ListN.{get_or}
use Rattle.number.proofs.Digits.{digit-range}
use Rattle.plain_parts.proofs.Digits.{next-digit}
use Rattle.plain_parts.proofs.digits_from.Goals as goal

pub loop-i-preserved : goal.loop-i-preserved
loop-i-preserved c =
    let a = c.args in
    let l = c.loop-i in
    let digit = sym c.is_digit.ensures ∙ c.if-not-is_digit.false in
    let range = digit-range (get_or a.s.now l.i 0) digit in
    rw c.from.ensures (next-digit a.s.now a.from l.i l.v (omega arith) digit l.invariant.1 (omega arith) l.invariant.0, omega (arith, l.invariant.1))
