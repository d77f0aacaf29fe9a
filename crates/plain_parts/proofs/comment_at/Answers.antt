-- `plain_parts::comment_at` meets its contract. Assumes nothing.
use mathlib.Core.Bool.{true}
use mathlib.Core.Path.{subst}
use Prim.Native.Nat.{ℕ, ◌≤◌}
use native.Mathlib.Omega.{arith}
use Rattle.plain_parts.specs.Stands.{OpeningStands}
use Rattle.plain_parts.proofs.Ended.{comment-stands}
use Rattle.plain_parts.proofs.comment_at.Goals as goal

pub overflow_add-a : goal.overflow_add-a
overflow_add-a c =
    let o : OpeningStands _ _ true = rw c.if-not-opening_at.false at c.opening_at.ensures in
    omega (arith, o.0)

pub returns-then-e-not_inside_from : goal.returns-then-e-not_inside_from
returns-then-e-not_inside_from c =
    let a = c.args in
    comment-stands a.s.now a.from c.two_from-close.result (rw c.if-not-opening_at.false at c.opening_at.ensures) c.two_from-close.ensures c.if-s-close.false c.not_separator_from-e.result c.not_separator_from-e.ensures (subst (λ (k : ℕ). c.not_separator_from-e.result ≤ k) c.not_inside_from.ensures c.if-e-not_inside_from.true)
