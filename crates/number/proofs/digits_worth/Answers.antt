-- `number::digits_worth` meets its contract. The invariant: what is left of the digits is worth, behind v, what all of them are worth.
-- Assumes nothing.
use mathlib.Core.Path.{◌≡◌, ◌∙◌, sym, ap}
use mathlib.Core.List.{[]}
use mathlib.Core.Bool.{true, false}
use Prim.Native.Nat.{ℕ, ◌≤◌, ◌-◌}
use native.Mathlib.Omega.{arith}
use lib.ListN.{length, drop, get_or}
use lib.Seq.{drop-length}
use Rattle.scan.specs.Allowed.{digit, all}
use Rattle.number.specs.Executable.{worth, number_of}
use Rattle.number.proofs.Digits.{digit-range, digits-no, digits-go, worth-go, pow_more, pow-fits}
use Rattle.number.proofs.digits_worth.Goals as goal
use Rattle.number.proofs.digits_worth.Goals.{Else-not-is_digit}

-- the byte read in a turn
abbrev byte : Else-not-is_digit → ℕ
byte c = get_or c.args.s.now c.loop-b.b-index 0

is_digit : (c : Else-not-is_digit) → digit (byte c) ≡ true
is_digit c = sym c.is_digit.ensures ∙ c.if-not-is_digit.false

in-range : (c : Else-not-is_digit) → (48 ≤ byte c) × (byte c ≤ 57)
in-range c = digit-range (byte c) (is_digit c)

pub overflow_mul-v : goal.overflow_mul-v
overflow_mul-v c =
    let l = c.loop-b in
    omega (arith, pow-fits l.v l.b-index 8 l.invariant.0 (omega arith))

pub overflow_add-v : goal.overflow_add-v
overflow_add-v c =
    let l = c.loop-b in
    omega (arith, pow-fits l.v l.b-index 8 l.invariant.0 (omega arith), in-range (goal.at.overflow_add-v c).Else-not-is_digit)

pub loop-b-preserved : goal.loop-b-preserved
loop-b-preserved c =
    let s = c.args.s.now in
    let i = c.loop-b.b-index in
    let v = c.loop-b.v in
    let d = is_digit (goal.at.loop-b-preserved c).Else-not-is_digit in
    let b = in-range (goal.at.loop-b-preserved c).Else-not-is_digit in (
      pow_more v (get_or s i 0 - 48) i c.loop-b.invariant.0 (omega arith),
      worth-go s i (omega arith) v ∙ c.loop-b.invariant.1,
      digits-go s i (omega arith) d ∙ c.loop-b.invariant.2,
    )

pub returns-then-not-is_digit : goal.returns-then-not-is_digit
unfolding number_of
returns-then-not-is_digit c =
    let s = c.args.s.now in
    let i = c.loop-b.b-index in
    let d : digit (get_or s i 0) ≡ false = sym c.is_digit.ensures ∙ c.if-not-is_digit.true in
    rw (sym c.loop-b.invariant.2, digits-no s i (omega arith) d)

pub returns : goal.returns
unfolding number_of worth all
returns c =
    let s = c.args.s.now in
    let e : c.loop-b.b-index ≡ length s = omega arith in
    let d : drop c.loop-b.b-index s ≡ [] = ap (λ (k : ℕ). drop k s) e ∙ drop-length s in
    rw (sym c.loop-b.invariant.2, sym c.loop-b.invariant.1, d)
