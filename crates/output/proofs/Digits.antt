-- The only digit of a number below ten, as its last one. Assumes nothing.
use mathlib.Core.Path.{◌≡◌, ap, ◌∙◌}
use mathlib.Core.List.{[], ◌∷◌}
use Prim.Native.Nat.{ℕ, ◌%◌, ◌<◌}
use native.Mathlib.Omega.{arith}
use Rattle.number.specs.Decimal.{digit_of, decimal}
use Rattle.number.proofs.Decimals.{decimal-one}

pub decimal-few : (n : ℕ) → n < 10 → decimal n ≡ digit_of (n % 10) ∷ []
decimal-few n h = let e : n ≡ n % 10 = omega arith in decimal-one n h ∙ ap (λ (d : ℕ). digit_of d ∷ []) e
