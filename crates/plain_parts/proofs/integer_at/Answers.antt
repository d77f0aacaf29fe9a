-- `plain_parts::integer_at` meets its contract. Assumes nothing.
use mathlib.Core.Path.{sym, ◌∙◌}
use native.Mathlib.Omega.{arith}
use Rattle.plain_parts.proofs.Digits.{first-digit}
use Rattle.plain_parts.proofs.integer_at.Goals as goal

pub zero_at-requires : goal.zero_at-requires
zero_at-requires c =
    let a = c.args in
    first-digit a.s.now a.from c.in_ok-b.field-0.now 0 c.in_ok-b.ensures.lookup.3.0 (c.in_ok-b.ensures.lookup.3.1 0) (sym c.is_digit.ensures ∙ c.if-not-is_digit.false) (sym c.if-v-eq0.true ∙ c.from-v.ensures)

pub digits_from-requires : goal.digits_from-requires
digits_from-requires c =
    let a = c.args in
    (first-digit a.s.now a.from c.in_ok-b.field-0.now c.from-v.result c.in_ok-b.ensures.lookup.3.0 (c.in_ok-b.ensures.lookup.3.1 0) (sym c.is_digit.ensures ∙ c.if-not-is_digit.false) c.from-v.ensures, omega (arith, c.if-v-eq0.false))
