-- The numbers of form, of references, and 1 (size), 10 (the end) and 11 (room), which are neither, are apart. Assumes nothing.
use mathlib.Core.Path.{◌≡◌}
use Prim.Native.Nat.{ℕ, ◌≤◌}
use native.Mathlib.Omega.{arith}
use Rattle.refusal.specs.Numbers.{OfForm, numbered, unmarked, OfReference}

module _ {n : ℕ} where
  pub form-or-reference : OfForm n → OfReference n → ⊥
  form-or-reference (numbered f) r = omega (arith, f.high, r.numbered.low)
  form-or-reference (unmarked f) r = omega (arith, f, r.numbered.high)

  pub form-not-size : OfForm n → n ≡ 1 → ⊥
  form-not-size (numbered f) e = omega (arith, f.low)
  form-not-size (unmarked f) e = omega (arith, f)

  pub form-not-end : OfForm n → n ≡ 10 → ⊥
  form-not-end (numbered f) e = omega (arith, f.high)
  form-not-end (unmarked f) e = omega (arith, f)

  pub form-not-room : OfForm n → n ≡ 11 → ⊥
  form-not-room (numbered f) e = omega (arith, f.high)
  form-not-room (unmarked f) e = omega (arith, f)

  pub reference-not-size : OfReference n → n ≡ 1 → ⊥
  reference-not-size r e = omega (arith, r.numbered.low)

  pub reference-not-end : OfReference n → n ≡ 10 → ⊥
  reference-not-end r e = omega (arith, r.numbered.low)

  pub reference-not-room : OfReference n → n ≡ 11 → ⊥
  reference-not-room r e = omega (arith, r.numbered.low)

-- a number within these bounds is one
pub form-within : (n : ℕ) → 2 ≤ n → n ≤ 9 → OfForm n
form-within n low high = numbered (record { low = low; high = high })

pub reference-within : (n : ℕ) → 12 ≤ n → n ≤ 18 → OfReference n
reference-within n low high = record { numbered = record { low = low; high = high } }
