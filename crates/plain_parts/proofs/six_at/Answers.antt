-- `plain_parts::six_at` meets its contract: what was passed spells v, zeros in front too. Assumes nothing.
use mathlib.Core.Path.{sym, ◌∙◌}
use Prim.Native.Nat.{◌+◌, ◌-◌}
use native.Mathlib.Omega.{arith}
use lib.ListN.{get_or}
use Rattle.number.proofs.Digits.{digit-range, pow_more}
use Rattle.plain_parts.proofs.Digits.{padded-digit, no-digits}
use Rattle.plain_parts.proofs.six_at.Goals as goal

pub loop-k-init : goal.loop-k-init
loop-k-init c = (omega arith, no-digits c.args.s.now c.args.from)

pub loop-k-preserved : goal.loop-k-preserved
loop-k-preserved c =
    let a = c.args in
    let l = c.loop-k in
    let byte = get_or a.s.now (a.from + l.k) 0 in
    let digit = sym c.is_digit.ensures ∙ c.if-not-is_digit.false in
    let range = digit-range byte digit in
    rw c.from.ensures (pow_more l.v (byte - 48) l.k l.invariant.0 (omega arith), padded-digit a.s.now a.from l.k l.v (omega arith) digit l.invariant.1)
