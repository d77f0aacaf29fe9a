-- A small unsigned number as a signed one, and its negation: as in `coordinate`, which does not hand these laws out.
-- Assumes nothing.
use mathlib.Core.Path.{◌≡◌, ◌∙◌}
use mathlib.Core.Bool.{Bool, true, false}
use Prim.Native.Nat.{ℕ, zero, suc, ◌<◌}
use native.Mathlib.Omega.{arith}
use borrow.Author.Tests.{lt-ltb}
use lib.IntN.{pos, neg_ℤ, ◌-ℤ◌, +ℤ_idl}
use lib.Signed.{mag}
use mir.Syntax.{w32}
use Rattle.coordinate.specs.Sign.{signed}
use mir.Val.{SFits, to_z, of_z}
use mir.Facts.{to_z-of_z}

pub to-small : (m : ℕ) → m < 2147483648 → to_z w32 m ≡ pos m
to-small m h = rw (lt-ltb m 2147483648 h)

mag-neg : (m : ℕ) → m < 2147483648 → mag (neg_ℤ (pos m)) < 2147483648
mag-neg zero h = omega arith
mag-neg (suc m) h = omega arith

pub neg_small : (m : ℕ) → m < 2147483648 → pos 0 -ℤ to_z w32 m ≡ neg_ℤ (pos m)
neg_small m h = rw (to-small m h) (+ℤ_idl (neg_ℤ (pos m)))

pub neg-fits : (m : ℕ) → m < 2147483648 → SFits w32 (pos 0 -ℤ to_z w32 m)
neg-fits m h = rw (neg_small m h) (record { sfits = mag-neg m h })

pub neg-back : (m : ℕ) → m < 2147483648 → to_z w32 (of_z w32 (pos 0 -ℤ to_z w32 m)) ≡ neg_ℤ (pos m)
neg-back m h = to_z-of_z (neg-fits m h) ∙ neg_small m h

-- handed on in an answer, it is the same
pub signed_back : (minus : Bool) (m : ℕ) → m < 2147483648 → to_z w32 (of_z w32 (signed minus m)) ≡ signed minus m
signed_back true m h = to_z-of_z {w = w32} (record { sfits = mag-neg m h })
signed_back false m h = to_z-of_z {w = w32} (record { sfits = h })
