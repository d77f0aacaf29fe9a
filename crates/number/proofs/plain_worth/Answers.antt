-- `number::plain_worth` meets its contract. Assumes nothing.
use mathlib.Core.Path.{◌≡◌, sym, ◌∙◌}
use Prim.Native.Nat.{◌≤◌, ◌<◌}
use native.Mathlib.Omega.{arith}
use borrow.Author.Tests.{eqb-true}
use lib.ListN.{length, get_or}
use Rattle.number.specs.Executable.{plain_of, number_of}
use Rattle.number.proofs.Digits.{plain-empty, plain-zeros, plain_unless, nonempty}
use Rattle.number.proofs.plain_worth.Goals as goal
use Rattle.number.proofs.plain_worth.Goals.{else-s-eq48-via-then-s-eq48+else-s-gt1, else-s-eq48-via-else-s-eq48}

pub returns-then-is_empty : goal.returns-then-is_empty
unfolding plain_of
returns-then-is_empty c =
    rw (plain-empty c.args.s.now (eqb-true (length c.args.s.now) 0 (sym c.is_empty.ensures ∙ c.if-is_empty.true)))

pub returns-then-s-gt1 : goal.returns-then-s-gt1
unfolding plain_of
returns-then-s-gt1 c = rw (plain-zeros c.args.s.now c.if-s-eq48.true (λ e. omega arith))

pub returns : goal.returns
unfolding plain_of number_of
returns c =
    let s = c.args.s.now in
    let some : 0 < length s = nonempty s (sym c.is_empty.ensures ∙ c.if-is_empty.false) in
    let alone : get_or s 0 0 ≡ 48 → length s ≤ 1 = λ e. elim c.else-s-eq48.branch [
      | else-s-eq48-via-then-s-eq48+else-s-gt1 w ↦ w.if-s-gt1.false
      | else-s-eq48-via-else-s-eq48 w ↦ absurd (w.if-s-eq48.false e)
    ] in
    rw (plain_unless s some alone) c.digits_worth.ensures
