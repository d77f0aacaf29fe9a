-- `packed_parts::are_checkpoints` meets its contract. The invariant: the marks are those of the numbers before, and what is left says the whole. Assumes nothing.
use native.Mathlib.Omega.{arith}
use mathlib.Core.Path.{refl, sym, ap}
use Prim.Native.Nat.{ℕ, ◌/◌}
use Rattle.marks.proofs.Seen.{none-marked}
use Rattle.packed_parts.proofs.NumberLaws.{none-done, number-inside, again-number, stopped-number, ended-numbers}
use Rattle.packed_parts.proofs.are_checkpoints.Goals as goal

pub loop-init : goal.loop-init
loop-init c = none-done _ _ _ (none-marked 4096 refl)

pub returns-then-not-is_new : goal.returns-then-not-is_new
returns-then-not-is_new c = stopped-number c.loop.invariant (omega arith) (sym c.if-not-is_new.ensures)

pub overflow_add-at : goal.overflow_add-at
overflow_add-at c = grind (arith, number-inside)

pub overflow_add-at-in-loop : goal.overflow_add-at-in-loop
overflow_add-at-in-loop c = grind (arith, number-inside)

pub loop-preserved : goal.loop-preserved
loop-preserved c = rw c.mark.ensures (again-number c.loop.invariant (c.four_at-number.result / 65536) (omega arith) (sym c.if-not-is_new.ensures) (ap (λ (x : ℕ). x / 65536) c.four_at-number.ensures))

pub returns : goal.returns
returns c = ended-numbers c.loop.invariant (omega arith)
